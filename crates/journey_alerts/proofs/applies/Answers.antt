-- `applies` meets its contract.
use Rattle.journey_alerts.specs.Laws.Texts.{applies_by}
use borrow.Author.Rules.{rules}
use Rattle.journey_alerts.proofs.applies.Goals as goal

pub returns : goal.returns
returns c = search applies_by
