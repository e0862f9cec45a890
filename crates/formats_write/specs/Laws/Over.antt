-- Law. A byte that is put in its place last, over another: the count of what stands behind it.
use Rattle.std.specs.Prelude.{◌≡◌, refl, List, [], ◌∷◌, ℕ, suc, ◌+◌, ◌≤◌, ◌<◌, length, set, Option, Some}
use Rattle.std.proofs.Common.{sym, ap, ◌∙◌, arith, set-set}
use Rattle.std.proofs.lemmas.List.Edits.{sets, sets-eq}
use Rattle.std.proofs.lemmas.List.{set_comm}
use Rattle.slices.specs.Lists.{pasted}
use Rattle.formats_write.specs.Laws.Adds.{then}
use Rattle.formats_write.specs.Promises.Adds.{Adds}

-- a store before others
set_sets : (x l : List ℕ) (i p n : ℕ) → p < i → set (sets l i x) p n ≡ sets (set l p n) i x
set_sets [] l i p n h = refl
set_sets (a ∷ x) l i p n h =
    set_sets x (set l i a) (suc i) p n (omega arith)
    ∙ ap (λ l. sets l (suc i) x) (set_comm l i p a n (λ e. absurd (omega (arith, e))))

set_over : (x l : List ℕ) (p b n : ℕ) → set (sets l p (b ∷ x)) p n ≡ sets l p (n ∷ x)
set_over x l p b n = set_sets x (set l p b) (suc p) p n (omega arith) ∙ ap (λ l. sets l (suc p) x) (set-set l p b n)

module _ {l m o u : List ℕ} {r q k j : Option ℕ} {b n : ℕ} {x : List ℕ} (f : Adds l r m q (b ∷ [])) (g : Adds m q o k x)
    (h : Adds o r u j (n ∷ [])) where
  whole : Adds l r o k (b ∷ x)
  whole = then f g

  over_holds : (p : ℕ) → r ≡ Some p → p + length (n ∷ x) ≤ length l → u ≡ pasted l p (n ∷ x)
  over_holds p e i =
      let z : p + length (n ∷ []) ≤ length o = omega (arith, whole.size) in
      h.holds p e z ∙ sym (sets-eq (n ∷ []) o p z)
      ∙ ap (λ o. set o p n) (whole.holds p e i ∙ sym (sets-eq (b ∷ x) l p i))
      ∙ set_over x l p b n ∙ sets-eq (n ∷ x) l p i

  pub put_over : Adds l r u k (n ∷ x)
  put_over = record {
    size = h.size ∙ whole.size;
    full = whole.full;
    next = whole.next;
    holds = over_holds;
    over = whole.over;
  }
