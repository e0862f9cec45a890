-- Believe: 01, Questions before work, History. AN ALERT SHEET.
use Rattle.std.specs.Prelude.{ℕ, ◌&&◌, List, leb, length}
use Rattle.formats.specs.Format.{Value}
use Rattle.formats_judge.specs.Judged.{ok}
use Rattle.alerts.specs.Alert.{Alert, alert_sheet}
use Rattle.overlay.specs.State.{State}
use Rattle.overlay.specs.Change.{after_alerts}
use Rattle.panel.specs.Outcome.{Asks, ask, ask_some}
use Rattle.panel.specs.Questions.{Lengths, whole, feed_ok, opened, changed}
use Rattle.panel.specs.Rule.{Rule, changes, Book, records_in, enter, if_read}

unfoldable pub alerts_ask : Lengths → List ℕ → List ℕ → State → Value alert_sheet → Asks
alerts_ask L old f s v = ask 5 (feed_ok f && ok 5 alert_sheet v) (changed L old (after_alerts f v.1 s))

unfoldable pub alert_sheet_asks : List ℕ → List ℕ → ℕ → List ℕ → Lengths → List ℕ → Asks
alert_sheet_asks f sheet new work L old =
    opened L old new L.overlay work L.work.alert_sheet (λ s.
    ask 3 (leb (length sheet) 1048576) (ask_some 4 (whole alert_sheet sheet) (alerts_ask L old f s)))

-- it replaces the alerts
abbrev pub alerts_enter : List ℕ → List Alert → Book → Book
alerts_enter f alerts bk =
    enter f (record { trips = (records_in bk f).trips; vehicles = (records_in bk f).vehicles; alerts = alerts }) bk

abbrev pub alert_sheet_rule : List ℕ → List ℕ → ℕ → List ℕ → Rule
alert_sheet_rule f sheet new work = record {
  out = new;
  work = work;
  asks = alert_sheet_asks f sheet new work;
  does = changes (λ bk. if_read (whole alert_sheet sheet) bk (λ v. alerts_enter f v.1 bk));
}
