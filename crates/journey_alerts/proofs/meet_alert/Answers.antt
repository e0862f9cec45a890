-- `meet_alert` meets its contract.
use Rattle.journey_alerts.specs.Laws.Alerts.{alert_not, alert_does}
use borrow.Author.Rules.{rules}
use Rattle.journey_alerts.proofs.meet_alert.Goals as goal

pub returns-then-applies : goal.returns-then-applies
returns-then-applies c = search alert_does

pub returns : goal.returns
returns c = search alert_not
