-- `survey` meets its contract.
use Rattle.journey_survey.specs.Laws.Legs.{surveyed}
use borrow.Author.Rules.{rules}
use Rattle.journey_survey.proofs.survey.Goals as goal

pub returns : goal.returns
returns c = surveyed c.number-n.ensures c.each_leg.ensures
