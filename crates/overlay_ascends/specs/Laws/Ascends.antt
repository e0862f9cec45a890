-- Law. A walk over vehicles that compares each key with the one before it.
use Rattle.std.specs.Prelude.{◌≡◌, refl, Bool, true, false, ◌&&◌, List, [], ◌∷◌, ℕ, ◌-◌, ◌≤◌, ◌<◌, length, take, drop}
use Rattle.std.proofs.Common.{sym, ap, ◌∙◌, arith}
use Rattle.std.proofs.Math.Seq.{slice}
use Rattle.slices.specs.Lists.{lex_of}
use Rattle.std.specs.declared.cmp.Ordering.{Ordering}
use Rattle.std.specs.declared.cmp.Ordering.TheVariants.{Less, Equal, Greater}
use Rattle.std.specs.Ordering.{is_lt}
use Rattle.maps.specs.Map.{is_less, above, ascending}
use Rattle.maps.specs.Order.{texts}
use Rattle.formats_write.specs.Laws.Slices.{slice_is}
use Rattle.formats_read.specs.Promises.Lists.{Many}
use Rattle.formats_read.specs.Promises.Reads.{ReadsNumber, ReadsText}
use Rattle.formats_read.specs.Laws.Here.{halves}
use Rattle.formats_read.specs.Laws.Lists.{listed}
use Rattle.formats_skip.specs.Promises.Passes.{Passes}
use Rattle.overlay.specs.State.{Vehicles, vehicle_entry}
use Rattle.overlay_ascends.specs.Promises.Ascends.{Ascends}

less_is : (o : Ordering) → is_lt o ≡ is_less o
less_is Less = refl
less_is Equal = refl
less_is Greater = refl

-- the order of two keys
pub precedes_is : (s : List ℕ) {a e b f : ℕ} {o : Ordering} → a ≤ e → e ≤ length s → b ≤ f → f ≤ length s
    → o ≡ lex_of (take (e - a) (drop a s)) (take (f - b) (drop b s))
    → is_less o ≡ is_less (lex_of (slice a e s) (slice b f s))
precedes_is s {a} {e} {b} {f} h k i j o = rw (← slice_is a e s h k, ← slice_is b f s i j) (ap is_less o)

pub precedes_by : (s : List ℕ) {a e b f : ℕ} {o : Ordering} → a ≤ e → e ≤ length s → b ≤ f → f ≤ length s
    → o ≡ lex_of (take (e - a) (drop a s)) (take (f - b) (drop b s)) → {t : Bool} → t ≡ is_lt o
    → t ≡ is_less (lex_of (slice a e s) (slice b f s))
precedes_by s {o = o} h k i j w m = m ∙ less_is o ∙ precedes_is s h k i j w

-- the values from p on, behind a key
record Ahead (s : List ℕ) (xs : Vehicles) (q : ℕ) (k : List ℕ) (p left : ℕ) : Type 0 where
  rest : Vehicles
  stand : Many vehicle_entry s p q rest
  count : length rest ≡ left
  is : ascending texts xs ≡ above texts k rest

-- begun at x with n vehicles, the walk is behind the key from a up to e, at p, and `left` are left
pub record Climb (s : List ℕ) (x n a e p left : ℕ) : Type 0 where
  pub forward : a ≤ e
  pub within : e ≤ length s
  of : (xs : Vehicles) (q : ℕ) → Many vehicle_entry s x q xs → length xs ≡ n → Ahead s xs q (slice a e s) p left

module _ {s : List ℕ} {p a e r : ℕ} (K : ReadsText s p a e) (P : Passes vehicle_entry s p r) where
  -- the first, and each after it
  first_of : {n : ℕ} → (n ≡ 0 → ⊥) → (xs : Vehicles) (q : ℕ) → Many vehicle_entry s p q xs → length xs ≡ n
      → Ahead s xs q (slice a e s) r (n - 1)
  first_of z [] q m c = absurd (z (sym c))
  first_of z (x ∷ xs) q m c = record {
    rest = xs;
    stand = rw (P.to m.1) m.2;
    count = omega arith;
    is = ap (λ k. above texts k xs) (sym (K.bytes (halves m.1).first));
  }

  pub climb_start : {n : ℕ} → (n ≡ 0 → ⊥) → Climb s p n a e r (n - 1)
  climb_start z = record { forward = K.forward; within = K.within; of = first_of z }

  module _ {x n b f left : ℕ} (C : Climb s x n b f p left) (l : 0 < left) where
    next_of : (xs : Vehicles) (q : ℕ) (k : List ℕ) (ys : Vehicles) → Many vehicle_entry s p q ys → length ys ≡ left
        → ascending texts xs ≡ above texts k ys → is_less (lex_of k (slice a e s)) ≡ true
        → Ahead s xs q (slice a e s) r (left - 1)
    next_of xs q k [] m c i t = absurd (omega arith)
    next_of xs q k (y ∷ ys) m c i t =
        let d = K.bytes (halves m.1).first in
        record {
          rest = ys;
          stand = rw (P.to m.1) m.2;
          count = omega arith;
          is = i ∙ ap (λ b. b && above texts y.0 ys) (ap (λ j. is_less (lex_of k j)) (sym d) ∙ t)
              ∙ ap (λ k. above texts k ys) (sym d);
        }

    pub climb_on : {t : Bool} → t ≡ is_less (lex_of (slice b f s) (slice a e s)) → t ≡ true
        → Climb s x n a e r (left - 1)
    climb_on d t = record {
      forward = K.forward;
      within = K.within;
      of = λ xs q m c. let A = C.of xs q m c in
          next_of xs q (slice b f s) A.rest A.stand A.count A.is (sym d ∙ t);
    }

-- a key that does not follow
module _ {s : List ℕ} {p a e : ℕ} (K : ReadsText s p a e) where
  module _ {x n b f left : ℕ} (C : Climb s x n b f p left) (l : 0 < left) where
    falls_of : (q : ℕ) (k : List ℕ) (ys : Vehicles) → Many vehicle_entry s p q ys → length ys ≡ left
        → is_less (lex_of k (slice a e s)) ≡ false → above texts k ys ≡ false
    falls_of q k [] m c t = absurd (omega arith)
    falls_of q k (y ∷ ys) m c t =
        ap (λ b. b && above texts y.0 ys)
        (ap (λ j. is_less (lex_of k j)) (sym (K.bytes (halves m.1).first)) ∙ t)

    pub climb_fails : {t : Bool} {at : ℕ} → ReadsNumber s at n x
        → t ≡ is_less (lex_of (slice b f s) (slice a e s)) → t ≡ false → Ascends s at false
    climb_fails N d t = record {
      to = λ {xs} {q} h.
          let v = (listed h).1 in
          let A = C.of xs q (rw (N.next v.count) v.values) (sym (N.value v.count)) in
          sym (A.is ∙ falls_of q (slice b f s) A.rest A.stand A.count (sym d ∙ t));
    }

-- no vehicles, and all of them
pub no_keys : {s : List ℕ} {at n x : ℕ} → ReadsNumber s at n x → n ≡ 0 → Ascends s at true
no_keys N z = record { to = λ {xs} h. none xs (sym (N.value (listed h).1.count) ∙ z) }
  where
    none : (xs : Vehicles) → length xs ≡ 0 → true ≡ ascending texts xs
    none [] c = refl
    none (x ∷ xs) c = absurd (omega arith)

pub climb_end : {s : List ℕ} {at n x a e p left : ℕ} → ReadsNumber s at n x → Climb s x n a e p left → left ≤ 0
    → Ascends s at true
climb_end {s} {a} {e} N C z = record {
  to = λ {xs} {q} h.
      let v = (listed h).1 in
      let A = C.of xs q (rw (N.next v.count) v.values) (sym (N.value v.count)) in
      sym (A.is ∙ all_up A.rest (omega (arith, A.count)));
}
  where
    all_up : (ys : Vehicles) → length ys ≤ 0 → above texts (slice a e s) ys ≡ true
    all_up [] c = refl
    all_up (y ∷ ys) c = absurd (omega arith)
