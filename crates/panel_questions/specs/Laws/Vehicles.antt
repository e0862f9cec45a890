-- Law. A vehicle sheet's questions 3 to 6.
use Rattle.std.specs.Prelude.{◌≡◌, refl, Bool, true, false, List, ℕ, ◌≤◌, ◌<◌, length, Option, Some, None}
use Rattle.std.proofs.Math.Path.{sym, ap}
use Rattle.std.proofs.Common.{◌∙◌, eq-eqb, ne_eqb}
use Rattle.std.proofs.Math.Bool.{cond}
use Rattle.std.proofs.Math.Option.{some}
use Rattle.maps.specs.Map.{ascending}
use Rattle.maps.specs.Order.{texts}
use Rattle.formats.specs.Format.{Value}
use Rattle.formats_judge.specs.Judged.{verdict, judge_to}
use Rattle.formats_read.specs.Laws.Here.{whole_here, halves}
use Rattle.overlay.specs.State.{vehicle_sheet}
use Rattle.overlay_ascends.specs.Promises.Ascends.{Ascends}
use Rattle.panel.specs.Questions.{feed_ok}
use Rattle.panel.specs.VehicleSheet.{keys_ascend, vehicles_in}
use Rattle.panel_questions.specs.Promises.Numbers.{timed, vehicle_number, Whole}
use Rattle.panel_questions.specs.Laws.Whole.{whole_broken, whole_short, whole_at, all_read}
use Rattle.panel_questions.specs.Laws.Whole.{too_long, no_form, in_form}

-- question 6, beside the verdict
pub timed_five : (n : ℕ) (c : Bool) → n ≡ 5 → 5 ≡ timed n c
timed_five n c e = rw (eq-eqb n 5 e) refl

pub timed_six : (n : ℕ) (c : Bool) → (n ≡ 5 → ⊥) → n ≡ 6 → 6 ≡ timed n c
timed_six n c h e = rw (ne_eqb n 5 h, eq-eqb n 6 e) refl

pub timed_fine : (n : ℕ) {c : Bool} → (n ≡ 5 → ⊥) → (n ≡ 6 → ⊥) → c ≡ true → 0 ≡ timed n c
timed_fine n h k e = rw (ne_eqb n 5 h, ne_eqb n 6 k, e) refl

pub timed_not : (n : ℕ) {c : Bool} → (n ≡ 5 → ⊥) → (n ≡ 6 → ⊥) → c ≡ false → 6 ≡ timed n c
timed_not n h k e = rw (ne_eqb n 5 h, ne_eqb n 6 k, e) refl

module _ (f s : List ℕ) (c : Bool) where
  abbrev asked : Value vehicle_sheet → ℕ
  asked v = cond (feed_ok f) (timed (verdict vehicle_sheet v) c) 5

  pub vehicles_long : 1048576 < length s → 3 ≡ vehicle_number f s c
  unfolding vehicle_number
  vehicles_long h = too_long s (vehicles_in s) asked h

  module _ (h : length s ≤ 1048576) {r : Option (ℕ × ℕ)} (j : r ≡ judge_to vehicle_sheet s 0) where
    pub vehicles_broken : r ≡ None → 4 ≡ vehicle_number f s c
    unfolding vehicle_number
    vehicles_broken e = no_form s (vehicles_in s) asked h (ap keys_ascend (whole_broken vehicle_sheet s j e))

    module _ {p n : ℕ} (e : r ≡ Some (p, n)) where
      pub vehicles_cut : p < length s → 4 ≡ vehicle_number f s c
      unfolding vehicle_number
      vehicles_cut l = no_form s (vehicles_in s) asked h (ap keys_ascend (whole_short vehicle_sheet s j e l))

      module _ (l : length s ≤ p) {u : Bool} (A : Ascends s 1 u) where
        abbrev W : Whole vehicle_sheet s n
        W = whole_at vehicle_sheet s j e l

        ascends_is : u ≡ ascending texts W.value.1
        ascends_is =
            A.to (halves (whole_here vehicle_sheet s W.value (all_read vehicle_sheet s W.value W.is))).second

        in_order : u ≡ true → vehicles_in s ≡ some W.value
        in_order t = ap keys_ascend W.is ∙ rw (sym ascends_is ∙ t) refl

        pub vehicles_fall : u ≡ false → 4 ≡ vehicle_number f s c
        unfolding vehicle_number
        vehicles_fall t = no_form s (vehicles_in s) asked h (ap keys_ascend W.is ∙ rw (sym ascends_is ∙ t) refl)

        module _ (t : u ≡ true) where
          pub vehicles_judged : {m : ℕ} → feed_ok f ≡ true → m ≡ timed n c → m ≡ vehicle_number f s c
          unfolding vehicle_number
          vehicles_judged b d =
              in_form s (vehicles_in s) asked h (in_order t)
              (d ∙ ap (λ n. timed n c) W.judged
              ∙ sym (ap (λ b. cond b (timed (verdict vehicle_sheet W.value) c) 5) b))

          pub vehicles_nowhere : feed_ok f ≡ false → 5 ≡ vehicle_number f s c
          unfolding vehicle_number
          vehicles_nowhere b =
              in_form s (vehicles_in s) asked h (in_order t)
              (sym (ap (λ b. cond b (timed (verdict vehicle_sheet W.value) c) 5) b))
