-- `one_more` meets its contract.
use Rattle.journey_survey.specs.Laws.Legs.{meets_leg}
use borrow.Author.Rules.{rules}
use Rattle.journey_survey.proofs.one_more.Goals as goal

pub returns : goal.returns
returns c = search meets_leg
