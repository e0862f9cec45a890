-- Law. How large what is read can be.
use Rattle.std.specs.Prelude.{ℕ, zero, suc, ◌+◌, ◌*◌, ◌/◌, ◌%◌, ◌^◌, ◌≤◌, ◌<◌, ◌≡◌, refl, List, [], ◌∷◌, Bool, true, false, cond, length, ltb, leb}
use Rattle.std.proofs.Common.{ap, arith, leb-true, ltb-true}
use Rattle.std.proofs.Math.Nat.{pow-succ', one-le-pow}
use Rattle.wire.specs.Wire.{Read, broken, read, and_then, digits, varint, Key, key}
use Rattle.wire.specs.Laws.Wire.{never}

-- at most `more` + 1 bytes, and a number that they can hold
pub record Small (more : ℕ) (s : List ℕ) (n : ℕ) (r : List ℕ) : Type 0 where
  pub below : n < 2 * 128 ^ more
  pub short : length s ≤ length r + more + 1

small_digits : (more : ℕ) (s : List ℕ) (n : ℕ) (r : List ℕ) → digits more s ≡ read n r → Small more s n r
unfolding digits
small_digits zero [] n r e = never e
small_digits (suc k) [] n r e = never e
small_digits zero (b ∷ s) n r e = go (leb b 1) refl e
  where
    go : (t : Bool) → leb b 1 ≡ t → cond t (read b s) broken ≡ read n r → Small zero (b ∷ s) n r
    go true e₁ e₂ =
        let p : b ≡ n = cc in
        let q : s ≡ r = cc in
        record { below = omega (arith, leb-true b 1 e₁); short = omega (arith, ap length q) }
    go false e₁ e₂ = never e₂
small_digits (suc k) (b ∷ s) n r e = go (small_digits k s) (ltb b 128) refl e
  where
    next : ((m : ℕ) (r' : List ℕ) → digits k s ≡ read m r' → Small k s m r') → (o : Read ℕ) → digits k s ≡ o
        → and_then o (λ m r. read (b % 128 + 128 * m) r) ≡ read n r → Small (suc k) (b ∷ s) n r
    next ih broken e₁ e₂ = never e₂
    next ih (read m r') e₁ e₂ =
        let S = ih m r' e₁ in
        let p : b % 128 + 128 * m ≡ n = cc in
        let q : r' ≡ r = cc in
        record { below = omega (arith, S.below, pow-succ' 128 k); short = omega (arith, S.short, ap length q) }

    go : ((m : ℕ) (r' : List ℕ) → digits k s ≡ read m r' → Small k s m r') → (t : Bool) → ltb b 128 ≡ t
        → cond t (read b s) (and_then (digits k s) (λ m r. read (b % 128 + 128 * m) r)) ≡ read n r
        → Small (suc k) (b ∷ s) n r
    go ih true e₁ e₂ =
        let p : b ≡ n = cc in
        let q : s ≡ r = cc in
        record {
          below = omega (arith, ltb-true b 128 e₁, pow-succ' 128 k, one-le-pow k 128 (omega arith));
          short = omega (arith, ap length q);
        }
    go ih false e₁ e₂ = next ih (digits k s) refl e₂

-- a varint is below 2 ^ 64, and takes ten bytes at most
pub varint_below : (s : List ℕ) (n : ℕ) (r : List ℕ) → varint s ≡ read n r → n < 2 ^ 64
unfolding varint
varint_below s n r e = (small_digits 9 s n r e).below

pub varint_short : (s : List ℕ) (n : ℕ) (r : List ℕ) → varint s ≡ read n r → length s ≤ length r + 10
unfolding varint
varint_short s n r e = omega (arith, (small_digits 9 s n r e).short)

-- a field's number is at least 1 and below 2 ^ 29, and a wire type below 8
pub key_below : (s : List ℕ) (k : Key) (r : List ℕ) → key s ≡ read k r
    → (1 ≤ k.number) × (k.number < 2 ^ 29) × (k.wire < 8)
unfolding key
key_below s k r e = go (varint s) e
  where
    inner : (x : ℕ) (m : List ℕ) (t u : Bool) → leb 8 x ≡ t → ltb x (2 ^ 32) ≡ u
        → cond t (cond u (read (record { number = x / 8; wire = x % 8 }) m) broken) broken ≡ read k r
        → (1 ≤ k.number) × (k.number < 2 ^ 29) × (k.wire < 8)
    inner x m false u e₁ e₂ e₃ = never e₃
    inner x m true false e₁ e₂ e₃ = never e₃
    inner x m true true e₁ e₂ e₃ =
        let h : record { number = x / 8; wire = x % 8 } ≡ k = cc in
        let p : x / 8 ≡ k.number = ap (λ j. j.number) h in
        let q : x % 8 ≡ k.wire = ap (λ j. j.wire) h in
        omega (arith, leb-true 8 x e₁, ltb-true x (2 ^ 32) e₂)

    go : (o : Read ℕ)
        → and_then o
        (λ k r. cond (leb 8 k) (cond (ltb k (2 ^ 32)) (read (record { number = k / 8; wire = k % 8 }) r) broken)
        broken) ≡ read k r
        → (1 ≤ k.number) × (k.number < 2 ^ 29) × (k.wire < 8)
    go broken e = never e
    go (read x m) e = inner x m (leb 8 x) (ltb x (2 ^ 32)) refl refl e
