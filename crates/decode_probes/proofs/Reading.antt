-- What is read of a message that is not broken. Assumes nothing.
use Prim.Native.Nat.{ℕ}
use mathlib.Core.Path.{◌≡◌, refl, ap, ◌∙◌}
use mathlib.Core.Bool.{Bool, true, false, cond, ◌&&◌}
use mathlib.Core.List.{List}
use mathlib.Core.Option.{Option, none, some}
use lib.ListN.{length, take}
use native.Mathlib.Omega.{arith}
use lib.Seq.{take-length}
use Rattle.realtime.specs.Tree.{Tree, tree}
use Rattle.realtime.specs.Schema.{feed}
use Rattle.realtime.specs.Judge.{Rules, asked, texts_fine, numbers_fine}
use Rattle.realtime.specs.declared.Verdict.{Verdict}
use Rattle.basics.specs.Texts.{same}
use Rattle.realtime.specs.Views.{TripView}
use Rattle.realtime_views.specs.Promises.Views.{part_in, view_trip}
use Rattle.realtime_views.specs.declared.Trip.{Trip}
use Rattle.decode_probes.specs.Answers.{of_whole, texts_are}
use Rattle.decode_probes.specs.Promises.Answers.{is_whole}

abbrev pub unbroken : Verdict → Bool
unbroken Verdict.Broken = false
unbroken Verdict.Text = true
unbroken Verdict.Time = true
unbroken Verdict.Fine = true

pub other_unbroken : (v : Verdict) → (v ≡ Verdict.Broken → ⊥) → unbroken v ≡ true
other_unbroken Verdict.Broken h = absurd (h refl)
other_unbroken Verdict.Text h = refl
other_unbroken Verdict.Time h = refl
other_unbroken Verdict.Fine h = refl

chosen : (b c : Bool) → unbroken (cond b (cond c Verdict.Fine Verdict.Time) Verdict.Text) ≡ true
chosen true true = refl
chosen true false = refl
chosen false c = refl

pub asked_whole : (ρ : Rules) (t : ℕ) (o : Option Tree) → unbroken (asked ρ t o) ≡ is_whole o
asked_whole ρ t none = refl
asked_whole ρ t (some m) = chosen (texts_fine ρ t m) (numbers_fine ρ t m)

module _ {A : Type 0} (d : A) (f : Tree → A) where
  none_broken : (o : Option Tree) → is_whole o ≡ false → d ≡ of_whole d f o
  none_broken none w = refl
  none_broken (some m) w = absurd (let z : ◌≡◌ {A = ℕ} 0 1 = cc in omega arith)

  some_whole : (o : Option Tree) {r : A} → is_whole o ≡ true → ((m : Tree) → o ≡ some m → r ≡ f m) → r ≡ of_whole d f o
  some_whole none w h = absurd (let z : ◌≡◌ {A = ℕ} 0 1 = cc in omega arith)
  some_whole (some m) w h = h m refl

  -- of the message of type t in the bytes s
  pub of_broken : (t : ℕ) (s : List ℕ) → is_whole (tree feed t s) ≡ false → d ≡ of_whole d f (tree feed t s)
  of_broken t s = none_broken (tree feed t s)

  pub of_whole_holds : (t : ℕ) (s : List ℕ) {r : A} → is_whole (tree feed t s) ≡ true
      → ((m : Tree) → tree feed t s ≡ some m → r ≡ f m) → r ≡ of_whole d f (tree feed t s)
  of_whole_holds t s = some_whole (tree feed t s)

-- a message in all of the bytes
pub all_of : (t : ℕ) {m : Tree} (s : List ℕ) → tree feed t s ≡ some m → tree feed t (take (length s) s) ≡ some m
all_of t s e = ap (tree feed t) (take-length s) ∙ e

-- three texts of a trip compared
module _ (s x y z : List ℕ) where
  pub texts_read : (t : Trip) {v : TripView} {a b c : Bool} → a ≡ same (part_in s t.time) x
      → b ≡ same (part_in s t.date) y → c ≡ same (part_in s t.route) z → view_trip s t ≡ v
      → (a && b) && c ≡ texts_are v x y z
  texts_read t p q r h = (λ j. (p j && q j) && r j) ∙ ap (λ v. texts_are v x y z) h
