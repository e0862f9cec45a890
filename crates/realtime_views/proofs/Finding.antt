-- The loop over the messages at field a that `seek` finds, in every type that has messages there, where theirs is one
-- that their own reader knows (`P`). Assumes nothing.
use Rattle.std.specs.Prelude.{Some, None}
use Prim.Native.Nat.{ℕ, ◌≤◌}
use mathlib.Core.Path.{◌≡◌, sym, ap, subst, ◌∙◌}
use mathlib.Core.List.{List}
use mathlib.Core.Option.{some}
use native.Mathlib.Omega.{arith}
use lib.ListN.{length, take, length-take}
use Rattle.realtime.specs.Tree.{a_message}
use Rattle.realtime.specs.Schema.{feed}
use Rattle.realtime_views.specs.Laws.Fold.{Walked}
use Rattle.realtime_views.specs.Promises.Fold.{Takes, inside, Made}
use Rattle.realtime_views.specs.Promises.Reading.{Lens}
use Rattle.realtime_views.specs.Promises.Seeks.{Seeks}
use Rattle.realtime_views.proofs.Reader.{Reading, sought_ends, sought_on}

-- the loop stands at `at` with d, and started at `from` with d₀: a reading for each of the types
pub record Finding {D B : Type 0} (L : Lens D B) (φ : Takes B) (P : ℕ → Type 0) (a : ℕ) (s : List ℕ) (from : ℕ) (d₀ : D)
    (at : ℕ) (d : D) : Type 0 where
  pub of : (t u : ℕ) → feed t a ≡ some (a_message u) → P u
      → Walked (inside a φ) (L.look s d₀) feed t s from at (L.look s d)
  pub within : L.In at d
  pub inside : at ≤ length s

module _ {D B : Type 0} {L : Lens D B} {φ : Takes B} {P : ℕ → Type 0} {a : ℕ} {s : List ℕ} {from : ℕ} where
  module _ {d₀ : D} {at : ℕ} {d : D} (R : Finding L φ P a s from d₀ at d) where
    reading : (t u : ℕ) → feed t a ≡ some (a_message u) → P u → Reading L (inside a φ) feed t s from d₀ at d
    reading t u e p = record { walked = R.of t u e p; within = R.within; inside = R.inside }

    pub found_all : Seeks feed a s at None → (t u : ℕ) → feed t a ≡ some (a_message u) → P u
        → Made (inside a φ) (L.look s d₀) feed t s from (L.look s d)
    found_all S t u e p = (sought_ends a φ (reading t u e p) e S).made

    pub found_far : L.In (length s) d
    found_far = L.far at (length s) d R.inside R.within

    pub found_next : {i l n : ℕ} {r : D} (x : List ℕ) → Seeks feed a s at (Some (i, l, n)) → x ≡ take n s
        → ((u : ℕ) → P u → Made φ (L.look x d) feed u x i (L.look x r)) → L.In (length x) r
        → Finding L φ P a s from d₀ n r
    found_next {n = n} {r = r} x S e M W =
        let N : n ≤ length s = S.lying.inside in
        record {
          of = λ t u g p.
              (sought_on a φ (reading t u g p) g {r = r} x S e (record { made = M u p; within = W })).walked;
          within = subst (λ k. L.In k r) (ap length e ∙ length-take n s ∙ omega arith) W;
          inside = N;
        }

-- of messages of one type alone
pub made_as : {B : Type 0} {φ : Takes B} {v w : B} {t u : ℕ} {s : List ℕ} {from : ℕ} → Made φ v feed t s from w → u ≡ t
    → Made φ v feed u s from w
made_as {φ = φ} {v = v} {w = w} {s = s} {from = from} M e = subst (λ k. Made φ v feed k s from w) (sym e) M
