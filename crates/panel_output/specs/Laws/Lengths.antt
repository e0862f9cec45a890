-- Law. Lengths that are compared one by one.
use Rattle.std.specs.Prelude.{◌≡◌, refl, Bool, true, false, ◌&&◌, List, [], ◌∷◌, ℕ, ◌+◌, ◌≤◌, ◌<◌, eqb, length, get_or, drop}
use Rattle.std.proofs.Common.{sym, ap, ◌∙◌, add-one, arith, drop_of_length-le, drop-cons, eq-eqb, ne_eqb}
use Rattle.basics.specs.Texts.{same}
use Rattle.basics.specs.Laws.Texts.{same_true}

-- the first i of them are the same
pub record Alike (a b : List ℕ) (i : ℕ) : Type 0 where
  pub long : length a ≡ length b
  pub rest : same a b ≡ same (drop i a) (drop i b)

pub alike_none : {a b : List ℕ} → length a ≡ length b → Alike a b 0
alike_none h = record { long = h; rest = refl }

module _ {a b : List ℕ} {i : ℕ} (A : Alike a b i) (h : i < length a) where
  next : same a b ≡ (eqb (get_or a i 0) (get_or b i 0) && same (drop (i + 1) a) (drop (i + 1) b))
  next =
      A.rest
      ∙ rw (drop-cons a i 0 h, drop-cons b i 0 (omega (arith, A.long)))
      (ap (λ k. eqb (get_or a i 0) (get_or b i 0) && same (drop k a) (drop k b)) (sym (add-one i)))

  pub alike_more : get_or a i 0 ≡ get_or b i 0 → Alike a b (i + 1)
  alike_more e = record { long = A.long; rest = next ∙ rw (eq-eqb (get_or a i 0) (get_or b i 0) e) refl }

  pub alike_other : (get_or a i 0 ≡ get_or b i 0 → ⊥) → false ≡ same a b
  alike_other n = sym (next ∙ rw (ne_eqb (get_or a i 0) (get_or b i 0) n) refl)

pub alike_all : {a b : List ℕ} {i : ℕ} → Alike a b i → length a ≤ i → true ≡ same a b
alike_all {a} {b} {i} A h =
    let k : length b ≤ i = omega (arith, A.long) in
    sym (A.rest ∙ rw (drop_of_length-le a h, drop_of_length-le b k) refl)

pub other_length : (a b : List ℕ) → (length a ≡ length b → ⊥) → false ≡ same a b
other_length a b h = go (same a b) refl
  where
    go : (t : Bool) → same a b ≡ t → false ≡ t
    go true e = absurd (h (ap length (same_true a b e)))
    go false e = refl
