-- A turn of the loop for one field, in every type that lists it as a number or as a text: the loop goes by wire types,
-- and what another wire type than the listed kind's has there is broken. Assumes nothing.
use Rattle.std.specs.Prelude.{Option, Some, None}
use Prim.Native.Nat.{ℕ, ◌≤◌, ◌<◌}
use mathlib.Core.Path.{◌≡◌, refl, sym, ap, ◌∙◌}
use mathlib.Core.List.{List}
use mathlib.Core.Bool.{true}
use mathlib.Core.Option.{Option as LogicOption, none, some}
use native.Mathlib.Omega.{arith}
use lib.ListN.{length, drop}
use Rattle.wire.specs.Laws.At.{text_read}
use Rattle.wire.specs.Promises.Places.{key_at, number_at, text_at, skipped_at}
use Rattle.wire.specs.declared.Cursor.{Cursor}
use Rattle.realtime.specs.Tree.{Kind, a_number, a_text, a_message, tree}
use Rattle.realtime.specs.Schema.{feed}
use Rattle.realtime_read.specs.Laws.Passing.{Passed}
use Rattle.realtime_read.proofs.Passing.{here}
use Rattle.realtime_read.proofs.Turn.{some_text}
use Rattle.realtime_views.specs.Laws.Fold.{Walked}
use Rattle.realtime_views.specs.Promises.Last.{taking}
use Rattle.realtime_views.specs.Promises.Scalars.{said, Lying, lying_far, scalar, scalar_at, is_scalar, OneReads}
use Rattle.realtime_views.specs.declared.Scalar.{Scalar}
use Rattle.realtime_views.proofs.Reader.{Reading, taking_skips, passes_on, breaks_off, key_breaks, comes_to_end}
use Rattle.realtime_views.proofs.Wires.{keyed, keyed_as, number_none, number_passed, number_step, text_none}
use Rattle.realtime_views.proofs.Wires.{text_passed, other_none, other_passed, lost, no_number, no_text}
use Rattle.realtime_views.proofs.Wires.{past_number, past_text}
use Rattle.realtime_views.proofs.Stops.{mine_number, mine_text}

-- the loop stands at `at` with d, and started at `from` with d₀: a reading for each of the types
pub record Ones (k : ℕ) (s : List ℕ) (from : ℕ) (d₀ : Scalar) (at : ℕ) (d : Scalar) : Type 0 where
  pub of : (t : ℕ) → is_scalar (feed t k) ≡ true
      → Walked (taking (scalar_at k)) (said s d₀) feed t s from at (said s d)
  pub within : Lying at d
  pub inside : at ≤ length s

-- what is listed as a scalar is a number or a text
by_kind : {P : Type 0} (o : LogicOption Kind) → is_scalar o ≡ true → (o ≡ some a_number → P) → (o ≡ some a_text → P) → P
by_kind none e n x = let z : ◌≡◌ {A = ℕ} 0 1 = cc in absurd (omega arith)
by_kind (some a_number) e n x = n refl
by_kind (some a_text) e n x = x refl
by_kind (some (a_message u)) e n x = let z : ◌≡◌ {A = ℕ} 0 1 = cc in absurd (omega arith)

module _ {k : ℕ} {s : List ℕ} {from : ℕ} {d₀ : Scalar} {at : ℕ} {d : Scalar} (R : Ones k s from d₀ at d) where
  reading : (t : ℕ) → is_scalar (feed t k) ≡ true → Reading scalar (taking (scalar_at k)) feed t s from d₀ at d
  reading t p = record { walked = R.of t p; within = R.within; inside = R.inside }

  far : Lying (length s) d
  far = lying_far at (length s) d R.inside R.within

  ones_break : ((t : ℕ) → tree feed t (drop at s) ≡ none) → OneReads k s from d₀ d
  ones_break e = record { of = λ t p. (breaks_off (reading t p) (e t)).made; within = far }

  pub ones_end : length s ≤ at → OneReads k s from d₀ d
  ones_end h = record { of = λ t p. (comes_to_end (reading t p) h).made; within = far }

  module _ (h : at < length s) {o : Option (ℕ × ℕ × Cursor)} (r : o ≡ key_at s at) where
    pub no_key : o ≡ None → OneReads k s from d₀ d
    no_key g = record { of = λ t p. (key_breaks (reading t p) h (sym g ∙ r)).made; within = far }

    module _ {f w : ℕ} {c : Cursor} (g : o ≡ Some (f, w, c)) where
      other : {n : ℕ} → ((t : ℕ) → Passed feed t s at f n) → (f ≡ k → ⊥) → Ones k s from d₀ n d
      other {n} P q = record {
        of = λ t p. (passes_on (reading t p) (P t) (taking_skips (scalar_at k) q)).walked;
        within = lying_far at n d (omega (arith, (P 0).ahead)) R.within;
        inside = (P 0).inside;
      }

      -- a text behind the key
      module _ (e : w ≡ 2) {x : Option (ℕ × ℕ × Cursor)} (y : x ≡ text_at s c.at) where
        pub broken_text : x ≡ None → OneReads k s from d₀ d
        broken_text z = ones_break (λ t. text_none s h r g e y feed t z)

        module _ {i l : ℕ} {n : Cursor} (z : x ≡ Some (i, l, n)) where
          past_the_text : (t : ℕ) → Passed feed t s at f n.at
          past_the_text = text_passed s h r g e y z feed

          pub own_text : f ≡ k → Ones k s from d₀ n.at (Scalar.Text i l)
          own_text q =
              let N : n.at ≤ length s = (past_the_text 0).inside in
              let W : Lying n.at (Scalar.Text i l) = omega (arith, (text_read s c.at i l n (sym z ∙ y)).ends) in
              record {
                of = λ t p. by_kind (feed t k) p
                    (λ j. (lost (reading t p) {r = Scalar.Text i l}
                    (no_number feed t h (keyed_as s h r g 2 e) (ap (feed t) q ∙ j) (λ v. omega arith)) N W).walked)
                    (λ j. (mine_text (scalar_at k) (reading t p) {r = Scalar.Text i l}
                    (some_text (here h (keyed_as s h r g 2 e)) (ap (feed t) q ∙ j) (sym z ∙ y)) q refl (λ v. v)
                    ).walked);
                within = W;
                inside = N;
              }

          pub other_text : (f ≡ k → ⊥) → Ones k s from d₀ n.at d
          other_text = other past_the_text

      -- a number
      module _ (e : w ≡ 0) {x : Option (ℕ × Cursor)} (y : x ≡ number_at s c.at) where
        pub broken_number : x ≡ None → OneReads k s from d₀ d
        broken_number z = ones_break (λ t. number_none s h r g e y feed t z)

        module _ {m : ℕ} {n : Cursor} (z : x ≡ Some (m, n)) where
          past_the_number : (t : ℕ) → Passed feed t s at f n.at
          past_the_number = number_passed s h r g e y z feed

          pub own_number : f ≡ k → Ones k s from d₀ n.at (Scalar.Number m)
          own_number q =
              let N : n.at ≤ length s = (past_the_number 0).inside in
              record {
                of = λ t p. by_kind (feed t k) p
                    (λ j. (mine_number (scalar_at k) (reading t p) {r = Scalar.Number m}
                    (number_step s h r g e y z feed t (ap (feed t) q ∙ j)) q refl tt).walked)
                    (λ j. (lost (reading t p) {r = Scalar.Number m}
                    (no_text feed t h (keyed_as s h r g 0 e) (ap (feed t) q ∙ j) (λ v. omega arith)) N tt).walked);
                within = tt;
                inside = N;
              }

          pub other_number : (f ≡ k → ⊥) → Ones k s from d₀ n.at d
          other_number = other past_the_number

      -- anything else
      module _ {x : Option Cursor} (y : x ≡ skipped_at s c.at f w 16) where
        pub broken_value : x ≡ None → OneReads k s from d₀ d
        broken_value z = ones_break (λ t. other_none s h r g y feed t z)

        module _ {n : Cursor} (z : x ≡ Some n) where
          past_it : (t : ℕ) → Passed feed t s at f n.at
          past_it = other_passed s h r g y z feed

          pub past_value : (w ≡ 2 → ⊥) → (w ≡ 0 → ⊥) → Ones k s from d₀ n.at d
          past_value a b = record {
            of = λ t p. by_kind (feed t k) p
                (λ j. (past_number (scalar_at k) (reading t p) h (keyed s h r g) (past_it t) j b).walked)
                (λ j. (past_text (scalar_at k) (reading t p) h (keyed s h r g) (past_it t) j a).walked);
            within = lying_far at n.at d (omega (arith, (past_it 0).ahead)) R.within;
            inside = (past_it 0).inside;
          }
