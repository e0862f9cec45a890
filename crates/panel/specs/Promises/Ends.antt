-- Promise. How each call ends, as an outcome: what contracts of inner code speak of.
use Rattle.std.specs.Prelude.{ℕ, List, ℤ}
use Rattle.formats.specs.Format.{Value}
use Rattle.realtime.specs.Tree.{Tree}
use Rattle.alerts.specs.Alert.{alert_sheet}
use Rattle.overlay.specs.State.{State, vehicle_sheet}
use Rattle.journey.specs.Card.{card}
use Rattle.panel.specs.Outcome.{Outcome, outcome}
use Rattle.panel.specs.Questions.{Lengths, changed}
use Rattle.panel.specs.Fresh.{fresh_asks}
use Rattle.panel.specs.Message.{tree_asks, message_asks}
use Rattle.panel.specs.AlertSheet.{alerts_ask, alert_sheet_asks}
use Rattle.panel.specs.VehicleSheet.{vehicles_ask, vehicle_sheet_asks}
use Rattle.panel.specs.Card.{arriving_asks, card_asks}
use Rattle.panel.specs.Report.{report_asks}
use Rattle.panel.specs.FeedAlerts.{alert_tree_asks, feed_alerts_asks}

abbrev pub changed_state : Lengths → List ℕ → State → Outcome
changed_state L old s = outcome (changed L old s)

abbrev pub fresh_of : Lengths → ℕ → Outcome
fresh_of L new = outcome (fresh_asks new L)

abbrev pub tree_outcome : Lengths → List ℕ → List ℕ → State → Tree → Outcome
tree_outcome L old f s t = outcome (tree_asks L old f s t)

abbrev pub message_of : Lengths → List ℕ → List ℕ → List ℕ → ℕ → List ℕ → Outcome
message_of L old f m new work = outcome (message_asks f m new work L old)

abbrev pub alerts_outcome : Lengths → List ℕ → List ℕ → State → Value alert_sheet → Outcome
alerts_outcome L old f s v = outcome (alerts_ask L old f s v)

abbrev pub alert_sheet_of : Lengths → List ℕ → List ℕ → List ℕ → ℕ → List ℕ → Outcome
alert_sheet_of L old f sheet new work = outcome (alert_sheet_asks f sheet new work L old)

abbrev pub vehicles_outcome : Lengths → List ℕ → List ℕ → ℤ → State → Value vehicle_sheet → Outcome
vehicles_outcome L old f clock s v = outcome (vehicles_ask L old f clock s v)

abbrev pub vehicle_sheet_of : Lengths → List ℕ → List ℕ → List ℕ → ℤ → ℕ → List ℕ → Outcome
vehicle_sheet_of L old f sheet clock new work = outcome (vehicle_sheet_asks f sheet clock new work L old)

abbrev pub arriving_outcome : Lengths → State → Value card → Outcome
arriving_outcome L s v = outcome (arriving_asks L s v)

abbrev pub card_call_of : Lengths → List ℕ → List ℕ → ℕ → List ℕ → Outcome
card_call_of L old bytes out work = outcome (card_asks bytes out work L old)

abbrev pub report_of : Lengths → List ℕ → List ℕ → ℕ → Outcome
report_of L old f out = outcome (report_asks f out L old)

abbrev pub alert_tree_outcome : Lengths → List ℕ → Tree → Outcome
alert_tree_outcome L f t = outcome (alert_tree_asks L f t)

abbrev pub feed_alerts_of : Lengths → List ℕ → List ℕ → ℕ → Outcome
feed_alerts_of L f m out = outcome (feed_alerts_asks f m out L)
