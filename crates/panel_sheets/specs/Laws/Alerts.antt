-- Law. An alert sheet's questions in their order.
use Rattle.std.specs.Prelude.{◌≡◌, Bool, ◌&&◌, List, ℕ, leb, length, Option}
use Rattle.std.proofs.Math.Path.{refl, sym, ap}
use Rattle.std.proofs.Common.{◌∙◌, arith}
use Rattle.std.proofs.Math.Bool.{true, false, cond}
use Rattle.std.proofs.Math.Option.{Option as LogicOption, none, some}
use Rattle.formats.specs.Format.{list, Value}
use Rattle.formats_judge.specs.Judged.{ok, first_failing, verdict}
use Rattle.formats_read.specs.Laws.Here.{whole_here, halves}
use Rattle.alerts.specs.Alert.{Alert, alert, alert_sheet}
use Rattle.overlay.specs.State.{State}
use Rattle.overlay.specs.Image.{state_of}
use Rattle.overlay.specs.Change.{after_alerts}
use Rattle.overlay.proofs.Laws.Within.{unjudged}
use Rattle.overlay_bodies.specs.Promises.Bodies.{AlertsIn}
use Rattle.overlay_frame.specs.Promises.Changes.{Changes}
use Rattle.panel.specs.Outcome.{Outcome, refused, need, need_some}
use Rattle.panel.specs.Questions.{Lengths, whole, feed_ok, lengths_ok}
use Rattle.panel.specs.AlertSheet.{alert_sheet_asks, alerts_ask}
use Rattle.panel.specs.Promises.Ends.{changed_state, alerts_outcome, alert_sheet_of}
use Rattle.panel.proofs.Laws.Lawful.{due_is}
use Rattle.panel_output.specs.declared.Ending.{Ending}
use Rattle.panel_output.specs.Promises.Ending.{outcome_of, put_ending}
use Rattle.panel_output.specs.Laws.Changed.{changed_outcome}
use Rattle.panel_questions.specs.Promises.Numbers.{formed, alert_number}
use Rattle.panel_questions.specs.Laws.Whole.{all_read}
use Rattle.panel_sheets.specs.Laws.Changed.{alerts_over}

-- a sheet that is whole: its alerts
alerts_in : (sheet : List ℕ) (v : Value alert_sheet) → whole alert_sheet sheet ≡ some v → AlertsIn sheet v.1
alerts_in sheet v e = (halves (whole_here alert_sheet sheet v (all_read alert_sheet sheet v e))).second

-- one value's questions 5 and 7
value_refused : (b five six seven : Bool) {n : ℕ} (o : Outcome) → six ≡ true → (seven ≡ false → o ≡ refused 7)
    → n ≡ cond b (first_failing five six seven) 5 → (n ≡ 0 → ⊥) → need (b && five) 5 o ≡ refused n
value_refused false five six seven o h k e z = ap refused (sym e)
value_refused true false six seven o h k e z = ap refused (sym e)
value_refused true true false seven o h k e z = absurd (let y : ◌≡◌ {A = ℕ} 0 1 = cc in omega arith)
value_refused true true true true o h k e z = absurd (z e)
value_refused true true true false o h k e z = k refl ∙ ap refused (sym e)

record Fine (b five seven : Bool) : Type 0 where
  feed : b ≡ true
  fifth : five ≡ true
  seventh : seven ≡ true

value_fine : (b five six seven : Bool) → 0 ≡ cond b (first_failing five six seven) 5 → Fine b five seven
value_fine false five six seven e = absurd (omega (arith, e))
value_fine true false six seven e = absurd (omega (arith, e))
value_fine true true false seven e = absurd (omega (arith, e))
value_fine true true true false e = absurd (omega (arith, e))
value_fine true true true true e = record { feed = refl; fifth = refl; seventh = refl }

-- QUESTION 1
pub alerts_unsized : (L : Lengths) (old f sheet : List ℕ) (new : ℕ) (work : List ℕ)
    → lengths_ok L old new L.overlay work L.work.alert_sheet ≡ false
    → refused 1 ≡ alert_sheet_of L old f sheet new work
unfolding alert_sheet_asks
alerts_unsized L old f sheet new work h = rw h refl

module _ (L : Lengths) (old f sheet : List ℕ) (new : ℕ) (work : List ℕ)
    (h : lengths_ok L old new L.overlay work L.work.alert_sheet ≡ true) where
  abbrev asks : State → Outcome
  asks s = need (leb (length sheet) 1048576) 3 (need_some (whole alert_sheet sheet) 4 (alerts_outcome L old f s))

  -- QUESTION 2
  pub alerts_closed : state_of old ≡ none → refused 2 ≡ alert_sheet_of L old f sheet new work
  unfolding alert_sheet_asks
  alerts_closed e = rw (h, e) refl

  alerts_open : {s : State} → state_of old ≡ some s → alert_sheet_of L old f sheet new work ≡ asks s
  unfolding alert_sheet_asks
  alerts_open e = rw (h, e) refl

  -- QUESTIONS 3 TO 7, of the sheet
  module _ {n : ℕ} (N : n ≡ alert_number f sheet) {s : State} (i : state_of old ≡ some s) where
    pub alerts_refused : (n ≡ 0 → ⊥) → refused n ≡ alert_sheet_of L old f sheet new work
    unfolding alert_number alerts_ask
    alerts_refused z = sym (alerts_open i ∙ go (leb (length sheet) 1048576) (whole alert_sheet sheet) N)
      where
        go : (b : Bool) (o : LogicOption (Value alert_sheet))
            → n ≡ cond b (formed o (λ v. cond (feed_ok f) (verdict alert_sheet v) 5)) 3
            → need b 3 (need_some o 4 (alerts_outcome L old f s)) ≡ refused n
        go false o e = ap refused (sym e)
        go true none e = ap refused (sym e)
        go true (some v) e =
            value_refused (feed_ok f) (ok 5 alert_sheet v) (ok 6 alert_sheet v) (ok 7 alert_sheet v)
            (changed_state L old (after_alerts f v.1 s)) (unjudged 6 alert_sheet refl v)
            (λ k. alerts_over L old f v.1 s k) e z

    -- or all are answered by yes
    pub record Sheet : Type 0 where
      pub alerts : List Alert
      pub stand : AlertsIn sheet alerts
      pub few : ok 7 (list 256 alert) alerts ≡ true
      pub is : alert_sheet_of L old f sheet new work ≡ changed_state L old (after_alerts f alerts s)

    pub alerts_asked : n ≡ 0 → Sheet
    unfolding alert_number alerts_ask
    alerts_asked z =
        go (leb (length sheet) 1048576) (whole alert_sheet sheet) refl (sym z ∙ N) (alerts_open i)
      where
        go : (b : Bool) (o : LogicOption (Value alert_sheet)) → whole alert_sheet sheet ≡ o
            → 0 ≡ cond b (formed o (λ v. cond (feed_ok f) (verdict alert_sheet v) 5)) 3
            → alert_sheet_of L old f sheet new work ≡ need b 3 (need_some o 4 (alerts_outcome L old f s)) → Sheet
        go false o w e k = absurd (omega (arith, e))
        go true none w e k = absurd (omega (arith, e))
        go true (some v) w e k =
            let F = value_fine (feed_ok f) (ok 5 alert_sheet v) (ok 6 alert_sheet v) (ok 7 alert_sheet v) e in
            record {
              alerts = v.1;
              stand = alerts_in sheet v w;
              few = F.seventh;
              is = k ∙ rw (F.feed, F.fifth) refl;
            }

    -- accepted, or without room
    pub alerts_accepted : {l m : List ℕ} {q : Option ℕ} {r : Ending} → n ≡ 0 → new ≡ length l
        → ((vs : List Alert) → AlertsIn sheet vs → ok 7 (list 256 alert) vs ≡ true
        → Changes l m q (after_alerts f vs s))
        → r ≡ put_ending q → outcome_of m r ≡ alert_sheet_of L old f sheet new work
    alerts_accepted {m} z k C e =
        let S = alerts_asked z in
        let d = due_is L old new L.overlay work L.work.alert_sheet h in
        ap (outcome_of m) e
        ∙ changed_outcome L old (after_alerts f S.alerts s) (sym k ∙ d) (C S.alerts S.stand S.few)
        ∙ sym S.is
