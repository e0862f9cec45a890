-- Law. An alert sheet keeps what every call has to.
use Rattle.std.specs.Prelude.{◌≡◌, refl, List, ℕ}
use Rattle.std.proofs.Common.{sym, ap, ◌∙◌}
use Rattle.basics.specs.Laws.Booleans.{both_true}
use Rattle.formats_judge.specs.Judged.{ok}
use Rattle.alerts.specs.Alert.{Alert, alert, alert_sheet}
use Rattle.overlay.specs.State.{State}
use Rattle.overlay.specs.Records.{shown}
use Rattle.overlay.specs.Change.{after_alerts}
use Rattle.overlay.proofs.Laws.Within.{Judged56, elements, unjudged, right}
use Rattle.overlay.proofs.Laws.StaysValid.{alerts_kept}
use Rattle.panel.specs.Questions.{feed_ok}
use Rattle.panel.specs.Rule.{enter}
use Rattle.panel.specs.AlertSheet.{alerts_ask, alert_sheet_asks, alerts_enter, alert_sheet_rule}
use Rattle.panel.proofs.Laws.Lawful.{Lawful, due_is, opened_kept, whole_formed, changed_right, entered_put}
use Rattle.panel.proofs.Laws.Lawful.{records_at, read_is}

alerts_shown : (f : List ℕ) (l : List Alert) (s : State) → shown (after_alerts f l s) ≡ alerts_enter f l (shown s)
unfolding after_alerts
alerts_shown f l s = entered_put f _ _ s
    ∙ ap (λ R. enter f (record { trips = R.trips; vehicles = R.vehicles; alerts = l }) (shown s))
    (sym (records_at f s))

pub alert_sheet_lawful : (f sheet : List ℕ) (new : ℕ) (work : List ℕ) → Lawful (alert_sheet_rule f sheet new work)
unfolding alert_sheet_asks alerts_ask
alert_sheet_lawful f sheet new work = record {
  ordered = λ L old. (refl, (refl, λ s. (refl, (refl, λ v. (refl, (refl, tt))))));
  right = λ L old bk h one s d three v is five.
      let y = both_true (feed_ok f) (ok 5 alert_sheet v) five in
      let j : Judged56 alert_sheet v =
      record { formed = whole_formed alert_sheet sheet v is; five = y.1; six = unjudged 6 alert_sheet refl v } in
      changed_right (after_alerts f v.1 s) (due_is L old new L.overlay work L.work.alert_sheet one)
      (alerts_kept f v.1 s y.0 (elements 256 alert v.1 (right j)) (opened_kept old s d))
      (alerts_shown f v.1 s ∙ ap (alerts_enter f v.1) (h.same s d)
      ∙ read_is bk (λ v. alerts_enter f v.1 bk) is);
}
