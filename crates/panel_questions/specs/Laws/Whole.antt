-- Law. What the judge's answer says of a sheet: it is one up to the last byte, or it is none.
use Rattle.std.proofs.lemmas.Option.{some_pair_parts}
use Rattle.std.specs.Prelude.{◌≡◌, Bool, true, false, ℕ, ◌-◌, ◌≤◌, ◌<◌, eqb, length, Option, Some, None}
use Rattle.std.proofs.Math.Path.{refl, sym, ap}
use Rattle.std.proofs.Common.{◌∙◌, arith, length-append, le-leb}
use Rattle.std.proofs.Math.Bool.{cond}
use mathlib.Core.List.{List, [], ◌∷◌}
use Rattle.std.proofs.Math.Option.{Option as LogicOption, none, some}
use Rattle.std.proofs.lemmas.Bool.{lt-leb}
use Rattle.basics.specs.Laws.Options.{none_some}
use Rattle.formats.specs.Class.{token}
use Rattle.formats.specs.Format.{Format, Value, read, write}
use Rattle.formats.specs.Laws.Format.{law}
use Rattle.formats_judge.specs.Judged.{judged, verdict, judge_to}
use Rattle.formats_judge.specs.Promises.Judged.{text_answer}
use Rattle.alerts.specs.Alert.{alert_sheet}
use Rattle.panel.specs.Questions.{ended_only, whole, feed_ok}
use Rattle.panel_questions.specs.Promises.Numbers.{formed, short, alert_number, Whole}

at_broken : {C : Type 0} {p n : ℕ} → ◌≡◌ {A = Option (ℕ × ℕ)} (Some (p, n)) None → C
at_broken e = absurd (let z : ◌≡◌ {A = ℕ} 0 1 = cc in omega arith)

at_place : {p q n m : ℕ} → ◌≡◌ {A = Option (ℕ × ℕ)} (Some (p, n)) (Some (q, m)) → p ≡ q
at_place e = (some_pair_parts _ _ _ _ e).0

at_verdict : {p q n m : ℕ} → ◌≡◌ {A = Option (ℕ × ℕ)} (Some (p, n)) (Some (q, m)) → n ≡ m
at_verdict e = (some_pair_parts _ _ _ _ e).1

-- what is left behind a value is no more than there was
rest_within : (g : Format) (s : List ℕ) (v : Value g) (t : List ℕ) → read g s ≡ some (v, t) → length t ≤ length s
rest_within g s v t e =
    let b = ((law g).back s v t e).0 in omega (arith, ap length b, length-append (write g v) t)

module _ (g : Format) (s : List ℕ) {r : Option (ℕ × ℕ)} (j : r ≡ judge_to g s 0) where
  pub whole_broken : r ≡ None → whole g s ≡ none
  unfolding whole
  whole_broken e = go (read g s) (sym e ∙ j)
    where
      go : (o : LogicOption (Value g × List ℕ)) → None ≡ judged (verdict g) s o → ended_only o ≡ none
      go none h = refl
      go (some (v, t)) h = at_broken (sym h)

  pub whole_short : {p n : ℕ} → r ≡ Some (p, n) → p < length s → whole g s ≡ none
  unfolding whole
  whole_short {p} {n} e l = go (read g s) (sym e ∙ j)
    where
      go : (o : LogicOption (Value g × List ℕ)) → Some (p, n) ≡ judged (verdict g) s o → ended_only o ≡ none
      go none h = refl
      go (some (v, [])) h = absurd (omega (arith, at_place h))
      go (some (v, b ∷ t)) h = refl

  pub whole_at : {p n : ℕ} → r ≡ Some (p, n) → length s ≤ p → Whole g s n
  unfolding whole
  whole_at {p} {n} e l = go (read g s) refl (sym e ∙ j)
    where
      go : (o : LogicOption (Value g × List ℕ)) → read g s ≡ o → Some (p, n) ≡ judged (verdict g) s o → Whole g s n
      go none k h = at_broken h
      go (some (v, [])) k h = record { value = v; is = ap ended_only k; judged = at_verdict h }
      go (some (v, b ∷ t)) k h = absurd (omega (arith, at_place h, rest_within g s v (b ∷ t) k))

-- a sheet that is whole, as it was read
pub some_is : {A : Type 0} {a b : A} → some a ≡ some b → a ≡ b
some_is e = cc

pub all_read : (g : Format) (s : List ℕ) (v : Value g) → whole g s ≡ some v → read g s ≡ some (v, [])
unfolding whole
all_read g s v e = go (read g s) e
  where
    go : (o : LogicOption (Value g × List ℕ)) → ended_only o ≡ some v → o ≡ some (v, [])
    go none h = none_some h
    go (some (u, [])) h = ap (λ v. some (v, [])) (some_is h)
    go (some (u, b ∷ t)) h = none_some h

-- the feed id
pub feed_so : (f : List ℕ) {n : ℕ} → n ≡ text_answer 16 token f → eqb n 0 ≡ feed_ok f
feed_so f e = ap (λ n. eqb n 0) e ∙ go (feed_ok f)
  where
    go : (b : Bool) → eqb (cond b 0 5) 0 ≡ b
    go true = refl
    go false = refl

-- QUESTION 3 AND 4, and what follows
module _ {A : Type 0} (s : List ℕ) (o : LogicOption A) (k : A → ℕ) where
  pub too_long : 1048576 < length s → 3 ≡ short s (formed o k)
  too_long h = rw (lt-leb (length s) 1048576 h) refl

  pub no_form : length s ≤ 1048576 → o ≡ none → 4 ≡ short s (formed o k)
  no_form h e = rw (le-leb (length s) 1048576 h, e) refl

  pub in_form : {v : A} {n : ℕ} → length s ≤ 1048576 → o ≡ some v → n ≡ k v → n ≡ short s (formed o k)
  in_form h e d = rw (le-leb (length s) 1048576 h, e) d

-- AN ALERT SHEET
module _ (f s : List ℕ) where
  abbrev asked : Value alert_sheet → ℕ
  asked v = cond (feed_ok f) (verdict alert_sheet v) 5

  pub alerts_long : 1048576 < length s → 3 ≡ alert_number f s
  unfolding alert_number
  alerts_long h = too_long s (whole alert_sheet s) asked h

  module _ (h : length s ≤ 1048576) {r : Option (ℕ × ℕ)} (j : r ≡ judge_to alert_sheet s 0) where
    pub alerts_broken : r ≡ None → 4 ≡ alert_number f s
    unfolding alert_number
    alerts_broken e = no_form s (whole alert_sheet s) asked h (whole_broken alert_sheet s j e)

    module _ {p n : ℕ} (e : r ≡ Some (p, n)) where
      pub alerts_cut : p < length s → 4 ≡ alert_number f s
      unfolding alert_number
      alerts_cut l = no_form s (whole alert_sheet s) asked h (whole_short alert_sheet s j e l)

      pub alerts_judged : length s ≤ p → feed_ok f ≡ true → n ≡ alert_number f s
      unfolding alert_number
      alerts_judged l t =
          let W = whole_at alert_sheet s j e l in
          in_form s (whole alert_sheet s) asked h W.is
          (W.judged ∙ sym (ap (λ b. cond b (verdict alert_sheet W.value) 5) t))

      pub alerts_nowhere : length s ≤ p → feed_ok f ≡ false → 5 ≡ alert_number f s
      unfolding alert_number
      alerts_nowhere l t =
          let W = whole_at alert_sheet s j e l in
          in_form s (whole alert_sheet s) asked h W.is
          (sym (ap (λ b. cond b (verdict alert_sheet W.value) 5) t))
