-- Law. EACH QUESTION OF EACH CALL, in the papers' numbers: a second reading of the calls' files. A question behind one
-- that reads something is put to what was read.
use Rattle.std.specs.Prelude.{◌≡◌, Bool, ◌&&◌, List, [], ℕ, ◌-◌, ℤ, eqb, leb, length}
use Rattle.std.proofs.Math.Option.{some}
use Rattle.basics.specs.Texts.{same}
use Rattle.basics.specs.Options.{is_some}
use Rattle.formats.specs.Class.{token}
use Rattle.formats.specs.Format.{text, Value, write}
use Rattle.formats_judge.specs.Judged.{ok}
use Rattle.realtime.specs.Tree.{Tree, tree}
use Rattle.realtime.specs.Schema.{feed_message, alert_message, feed}
use Rattle.realtime.specs.Judge.{rules, rules_by, texts_fine, numbers_fine}
use Rattle.decode.specs.Trip.{instant}
use Rattle.alerts.specs.Alert.{alert_sheet as alert_form}
use Rattle.alerts_feed.specs.Sheet.{sheet_in}
use Rattle.overlay.specs.State.{State, no_state, vehicle_sheet as vehicle_form, overlay}
use Rattle.overlay.specs.Image.{room, state_of}
use Rattle.overlay.specs.Change.{after_message, after_alerts, after_vehicles}
use Rattle.journey.specs.Card.{card as card_form}
use Rattle.panel.specs.Questions.{Lengths, whole}
use Rattle.panel.specs.Fresh.{fresh_asks}
use Rattle.panel.specs.Message.{tree_asks, message_asks}
use Rattle.panel.specs.AlertSheet.{alerts_ask, alert_sheet_asks}
use Rattle.panel.specs.VehicleSheet.{vehicles_in, vehicles_ask, vehicle_sheet_asks}
use Rattle.panel.specs.Card.{finished, arriving_asks, card_asks}
use Rattle.panel.specs.Report.{report_asks}
use Rattle.panel.specs.FeedAlerts.{alert_tree_asks, feed_alerts_asks}
use Rattle.panel.specs.Calls.{Call, fresh, message, alert_sheet, vehicle_sheet, card, report, feed_alerts, asks}
use Rattle.panel.specs.Answers.{answer}
use Rattle.panel.proofs.Laws.AsPut.{Each, as_put}

-- question 1 of a call over an overlay: its length, the output's, the working buffers'
abbrev sized : List ℕ → ℕ → ℕ → ℕ → List ℕ → List ℕ → Bool
sized old overlay out due work work_due = eqb (length old) overlay && (eqb out due && same work work_due)

-- question 7 of what a call leaves: the counts, and room for it
abbrev fits : Lengths → State → Bool
fits L s = ok 7 overlay s && room L.overlay s

pub fresh_1 : (L : Lengths) (old : List ℕ) (new : ℕ)
    → answer (asks L old (fresh new)) 1 ≡ (eqb new L.overlay && room new no_state)
unfolding fresh_asks
fresh_1 L old new = (as_put L old (fresh new)).0

-- ---- a message

module _ (L : Lengths) (old : List ℕ) (f m : List ℕ) (new : ℕ) (work : List ℕ) where
  abbrev message_call : Call
  message_call = message f m new work

  message_put : Each (answer (asks L old message_call)) (asks L old message_call)
  message_put = as_put L old message_call

  pub message_1 : answer (asks L old message_call) 1 ≡ sized old L.overlay new L.overlay work L.work.message
  unfolding message_asks
  message_1 = message_put.0

  pub message_2 : answer (asks L old message_call) 2 ≡ is_some (state_of old)
  unfolding message_asks
  message_2 = message_put.1.0

  module _ (s : State) (d : state_of old ≡ some s) where
    pub message_3 : answer (asks L old message_call) 3 ≡ leb (length m) 1048576
    unfolding message_asks
    message_3 = (message_put.1.1 s d).0

    pub message_4 : answer (asks L old message_call) 4 ≡ is_some (tree feed feed_message m)
    unfolding message_asks
    message_4 = (message_put.1.1 s d).1.0

    module _ (t : Tree) (is : tree feed feed_message m ≡ some t) where
      pub message_5 : answer (asks L old message_call) 5 ≡ (ok 5 (text 16 token) f && texts_fine rules feed_message t)
      unfolding message_asks tree_asks
      message_5 = ((message_put.1.1 s d).1.1 t is).0

      pub message_6 : answer (asks L old message_call) 6 ≡ numbers_fine rules feed_message t
      unfolding message_asks tree_asks
      message_6 = ((message_put.1.1 s d).1.1 t is).1.0

      pub message_7 : answer (asks L old message_call) 7 ≡ fits L (after_message f t s)
      unfolding message_asks tree_asks
      message_7 = ((message_put.1.1 s d).1.1 t is).1.1.0

-- ---- an alert sheet

module _ (L : Lengths) (old : List ℕ) (f sheet : List ℕ) (new : ℕ) (work : List ℕ) where
  abbrev alerts_call : Call
  alerts_call = alert_sheet f sheet new work

  alerts_put : Each (answer (asks L old alerts_call)) (asks L old alerts_call)
  alerts_put = as_put L old alerts_call

  pub alerts_1 : answer (asks L old alerts_call) 1
      ≡ sized old L.overlay new L.overlay work L.work.alert_sheet
  unfolding alert_sheet_asks
  alerts_1 = alerts_put.0

  pub alerts_2 : answer (asks L old alerts_call) 2 ≡ is_some (state_of old)
  unfolding alert_sheet_asks
  alerts_2 = alerts_put.1.0

  module _ (s : State) (d : state_of old ≡ some s) where
    pub alerts_3 : answer (asks L old alerts_call) 3 ≡ leb (length sheet) 1048576
    unfolding alert_sheet_asks
    alerts_3 = (alerts_put.1.1 s d).0

    pub alerts_4 : answer (asks L old alerts_call) 4 ≡ is_some (whole alert_form sheet)
    unfolding alert_sheet_asks
    alerts_4 = (alerts_put.1.1 s d).1.0

    module _ (v : Value alert_form) (is : whole alert_form sheet ≡ some v) where
      pub alerts_5 : answer (asks L old alerts_call) 5 ≡ (ok 5 (text 16 token) f && ok 5 alert_form v)
      unfolding alert_sheet_asks alerts_ask
      alerts_5 = ((alerts_put.1.1 s d).1.1 v is).0

      pub alerts_7 : answer (asks L old alerts_call) 7 ≡ fits L (after_alerts f v.1 s)
      unfolding alert_sheet_asks alerts_ask
      alerts_7 = ((alerts_put.1.1 s d).1.1 v is).1.0

-- ---- a vehicle sheet

module _ (L : Lengths) (old : List ℕ) (f sheet : List ℕ) (clock : ℤ) (new : ℕ) (work : List ℕ) where
  abbrev vehicles_call : Call
  vehicles_call = vehicle_sheet f sheet clock new work

  vehicles_put : Each (answer (asks L old vehicles_call)) (asks L old vehicles_call)
  vehicles_put = as_put L old vehicles_call

  pub vehicles_1 : answer (asks L old vehicles_call) 1
      ≡ sized old L.overlay new L.overlay work L.work.vehicle_sheet
  unfolding vehicle_sheet_asks
  vehicles_1 = vehicles_put.0

  pub vehicles_2 : answer (asks L old vehicles_call) 2 ≡ is_some (state_of old)
  unfolding vehicle_sheet_asks
  vehicles_2 = vehicles_put.1.0

  module _ (s : State) (d : state_of old ≡ some s) where
    pub vehicles_3 : answer (asks L old vehicles_call) 3 ≡ leb (length sheet) 1048576
    unfolding vehicle_sheet_asks
    vehicles_3 = (vehicles_put.1.1 s d).0

    pub vehicles_4 : answer (asks L old vehicles_call) 4 ≡ is_some (vehicles_in sheet)
    unfolding vehicle_sheet_asks
    vehicles_4 = (vehicles_put.1.1 s d).1.0

    module _ (v : Value vehicle_form) (is : vehicles_in sheet ≡ some v) where
      pub vehicles_5 : answer (asks L old vehicles_call) 5 ≡ (ok 5 (text 16 token) f && ok 5 vehicle_form v)
      unfolding vehicle_sheet_asks vehicles_ask
      vehicles_5 = ((vehicles_put.1.1 s d).1.1 v is).0

      pub vehicles_6 : answer (asks L old vehicles_call) 6 ≡ (ok 6 vehicle_form v && ok 6 instant clock)
      unfolding vehicle_sheet_asks vehicles_ask
      vehicles_6 = ((vehicles_put.1.1 s d).1.1 v is).1.0

      pub vehicles_7 : answer (asks L old vehicles_call) 7 ≡ fits L (after_vehicles f v.1 clock s)
      unfolding vehicle_sheet_asks vehicles_ask
      vehicles_7 = ((vehicles_put.1.1 s d).1.1 v is).1.1.0

-- ---- a card

module _ (L : Lengths) (old : List ℕ) (bytes : List ℕ) (out : ℕ) (work : List ℕ) where
  abbrev card_call : Call
  card_call = card bytes out work

  card_put : Each (answer (asks L old card_call)) (asks L old card_call)
  card_put = as_put L old card_call

  pub card_1 : answer (asks L old card_call) 1 ≡ sized old L.overlay out L.card work L.work.card
  unfolding card_asks
  card_1 = card_put.0

  pub card_2 : answer (asks L old card_call) 2 ≡ is_some (state_of old)
  unfolding card_asks
  card_2 = card_put.1.0

  module _ (s : State) (d : state_of old ≡ some s) where
    pub card_3 : answer (asks L old card_call) 3 ≡ leb (length bytes) 65536
    unfolding card_asks
    card_3 = (card_put.1.1 s d).0

    pub card_4 : answer (asks L old card_call) 4 ≡ is_some (whole card_form bytes)
    unfolding card_asks
    card_4 = (card_put.1.1 s d).1.0

    module _ (v : Value card_form) (is : whole card_form bytes ≡ some v) where
      pub card_5 : answer (asks L old card_call) 5 ≡ ok 5 card_form v
      unfolding card_asks arriving_asks
      card_5 = ((card_put.1.1 s d).1.1 v is).0

      pub card_6 : answer (asks L old card_call) 6 ≡ ok 6 card_form v
      unfolding card_asks arriving_asks
      card_6 = ((card_put.1.1 s d).1.1 v is).1.0

      pub card_7 : answer (asks L old card_call) 7 ≡ (ok 7 card_form v && ok 7 card_form (finished s v))
      unfolding card_asks arriving_asks
      card_7 = ((card_put.1.1 s d).1.1 v is).1.1.0

      pub card_8 : answer (asks L old card_call) 8 ≡ leb (length (write card_form (finished s v))) L.card
      unfolding card_asks arriving_asks
      card_8 = ((card_put.1.1 s d).1.1 v is).1.1.1.0

-- ---- a report

module _ (L : Lengths) (old : List ℕ) (f : List ℕ) (out : ℕ) where
  abbrev report_call : Call
  report_call = report f out

  report_put : Each (answer (asks L old report_call)) (asks L old report_call)
  report_put = as_put L old report_call

  pub report_1 : answer (asks L old report_call) 1 ≡ sized old L.overlay out 25 [] []
  unfolding report_asks
  report_1 = report_put.0

  pub report_2 : answer (asks L old report_call) 2 ≡ is_some (state_of old)
  unfolding report_asks
  report_2 = report_put.1.0

  module _ (s : State) (d : state_of old ≡ some s) where
    pub report_5 : answer (asks L old report_call) 5 ≡ ok 5 (text 16 token) f
    unfolding report_asks
    report_5 = (report_put.1.1 s d).0

-- ---- a message's alerts as a sheet

module _ (L : Lengths) (old : List ℕ) (f m : List ℕ) (out : ℕ) where
  abbrev feed_alerts_call : Call
  feed_alerts_call = feed_alerts f m out

  feed_alerts_put : Each (answer (asks L old feed_alerts_call)) (asks L old feed_alerts_call)
  feed_alerts_put = as_put L old feed_alerts_call

  pub feed_alerts_1 : answer (asks L old feed_alerts_call) 1 ≡ eqb out L.sheet
  unfolding feed_alerts_asks
  feed_alerts_1 = feed_alerts_put.0

  pub feed_alerts_3 : answer (asks L old feed_alerts_call) 3 ≡ leb (length m) 1048576
  unfolding feed_alerts_asks
  feed_alerts_3 = feed_alerts_put.1.0

  pub feed_alerts_4 : answer (asks L old feed_alerts_call) 4 ≡ is_some (tree feed alert_message m)
  unfolding feed_alerts_asks
  feed_alerts_4 = feed_alerts_put.1.1.0

  module _ (t : Tree) (is : tree feed alert_message m ≡ some t) where
    pub feed_alerts_5 : answer (asks L old feed_alerts_call) 5
        ≡ (ok 5 (text 16 token) f && texts_fine (rules_by (63 - length f)) alert_message t)
    unfolding feed_alerts_asks alert_tree_asks
    feed_alerts_5 = (feed_alerts_put.1.1.1 t is).0

    pub feed_alerts_7 : answer (asks L old feed_alerts_call) 7 ≡ ok 7 alert_form (sheet_in f t)
    unfolding feed_alerts_asks alert_tree_asks
    feed_alerts_7 = (feed_alerts_put.1.1.1 t is).1.0

    pub feed_alerts_8 : answer (asks L old feed_alerts_call) 8
        ≡ leb (length (write alert_form (sheet_in f t))) L.sheet
    unfolding feed_alerts_asks alert_tree_asks
    feed_alerts_8 = (feed_alerts_put.1.1.1 t is).1.1.0
