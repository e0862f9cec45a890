-- `prepare` meets its contract.
use Rattle.journey_alerts.specs.Laws.Places.{prepared}
use borrow.Author.Rules.{rules}
use Rattle.journey_alerts.proofs.prepare.Goals as goal

pub returns : goal.returns
returns c = search prepared
