-- `alerts_at` meets its contract.
use Rattle.journey_alerts.specs.Laws.Alerts.{at_met}
use borrow.Author.Rules.{rules}
use Rattle.journey_alerts.proofs.alerts_at.Goals as goal

pub returns : goal.returns
returns c = search at_met
