-- Law. One number put, and a feed's four.
use Rattle.std.specs.Prelude.{◌≡◌, refl, List, [], ◌∷◌, ℕ, zero, suc, ◌+◌, ◌*◌, ◌%◌, ◌≤◌, ◌<◌, length, get_or, set}
use Rattle.std.proofs.Common.{ap, ◌∙◌, arith, length-set, get_or-set_same, get_or-set_other}
use Rattle.decode.specs.Sizes.{most_old}
use Rattle.overlay_noted.specs.Promises.Noting.{Put, PartsPut}

set_past : (l : List ℕ) (i w : ℕ) → length l ≤ i → l ≡ set l i w
set_past [] i w h = refl
set_past (x ∷ l) zero w h = absurd (omega arith)
set_past (x ∷ l) (suc i) w h = ap (λ m. x ∷ m) (set_past l i w (omega arith))

-- ONE NUMBER
pub put_in : {l : List ℕ} {i p : ℕ} → Put l i p (set l i (p % 4294967296))
put_in {p} = record { word = p % 4294967296; low = λ h. omega arith; is = refl }

pub put_past : {l : List ℕ} {i p : ℕ} → length l ≤ i → Put l i p l
put_past {l} {i} {p} h = record { word = p; low = λ h. refl; is = set_past l i p h }

module _ {l : List ℕ} {i p : ℕ} {m : List ℕ} (Q : Put l i p m) where
  pub put_kept : length m ≡ length l
  put_kept = ap length Q.is ∙ length-set l i Q.word

  pub put_else : (j : ℕ) → (j ≡ i → ⊥) → get_or m j 0 ≡ get_or l j 0
  put_else j h = ap (λ n. get_or n j 0) Q.is ∙ get_or-set_other l i j Q.word 0 h

  pub put_same : i < length m → p ≤ most_old → get_or m i 0 ≡ p
  put_same h k =
      ap (λ n. get_or n i 0) Q.is ∙ get_or-set_same l i Q.word 0 (omega (arith, put_kept)) ∙ Q.low k

-- FOUR NUMBERS
pub parts_put : {l a b c d : List ℕ} {r e n v x : ℕ} → r < 4 → Put l (8192 + 4 * r) e a → Put a (8192 + 4 * r + 1) n b
    → Put b (8192 + 4 * r + 2) v c → Put c (8192 + 4 * r + 3) x d → PartsPut l d r e n v x
parts_put {r} h A B C D = record {
  kept = put_kept D ∙ put_kept C ∙ put_kept B ∙ put_kept A;
  below = λ j k.
      put_else D j (λ o. omega arith) ∙ put_else C j (λ o. omega arith) ∙ put_else B j (λ o. omega arith)
      ∙ put_else A j (λ o. omega arith);
  entry_is = λ k m.
      put_else D (8192 + 4 * r) (λ o. omega arith) ∙ put_else C (8192 + 4 * r) (λ o. omega arith)
      ∙ put_else B (8192 + 4 * r) (λ o. omega arith)
      ∙ put_same A (omega (arith, put_kept D, put_kept C, put_kept B)) m;
  count_is = λ k m.
      put_else D (8192 + 4 * r + 1) (λ o. omega arith) ∙ put_else C (8192 + 4 * r + 1) (λ o. omega arith)
      ∙ put_same B (omega (arith, put_kept D, put_kept C)) m;
  vehicles_is = λ k m.
      put_else D (8192 + 4 * r + 2) (λ o. omega arith) ∙ put_same C (omega (arith, put_kept D)) m;
  alerts_is = λ k m. put_same D (omega arith) m;
}
