-- `judge` meets its contract.
use borrow.Author.Rules.{rules}
use Rattle.panel_end.specs.Laws.End.{of_kind, no_kind}
use Rattle.panel_end.proofs.judge.Goals as goal

pub returns-then-kind-eq-CARD : goal.returns-then-kind-eq-CARD
returns-then-kind-eq-CARD c = search of_kind

pub returns-then-kind-eq-ALERT_SHEET : goal.returns-then-kind-eq-ALERT_SHEET
returns-then-kind-eq-ALERT_SHEET c = search of_kind

pub returns-then-kind-eq-VEHICLE_SHEET : goal.returns-then-kind-eq-VEHICLE_SHEET
returns-then-kind-eq-VEHICLE_SHEET c = search of_kind

pub returns : goal.returns
returns c = search no_kind
