-- Law. The marks as one element for each number: an element that isn't 0 is a mark.
use Rattle.std.specs.Prelude.{◌≡◌, refl, List, Bool, true, false, ◌||◌, ℕ, zero, suc, ◌<◌, eqb, length, get_or, set, replicate}
use Rattle.std.proofs.Common.{sym, ap, ◌∙◌, length-set, get_or-set_same, get_or-set_other, eqb-true}
use Rattle.std.proofs.lemmas.List.{length-replicate}
use Rattle.std.proofs.lemmas.Bool.{eqb-false}
use Rattle.basics.specs.Laws.Booleans.{or_false, or_comm}
use Rattle.alerts_search.specs.Promises.Marks.{marked, Marks, Unmarked, most_marks}

pub set_mark : (m : List ℕ) (i : ℕ) → i < length m → Marks m (set m i 1) i
set_mark m i h = record { kept = length-set m i 1; marks = λ j. go j (eqb j i) refl }
  where
    go : (j : ℕ) (t : Bool) → eqb j i ≡ t → marked (set m i 1) j ≡ marked m j || t
    go j true e =
        let is : j ≡ i = eqb-true j i e in
        rw (is, get_or-set_same m i 1 0 h) (or_comm true (marked m i))
    go j false e = rw (get_or-set_other m i j 1 0 (eqb-false j i e)) (sym (or_false (marked m j)))

get_d_zeros : (n j : ℕ) → ◌≡◌ {A = ℕ} (get_or (replicate n 0) j 0) 0
get_d_zeros zero j = refl
get_d_zeros (suc n) zero = refl
get_d_zeros (suc n) (suc j) = get_d_zeros n j

pub zeros_unmarked : (old new : List ℕ) → length old ≡ most_marks → new ≡ replicate (length old) 0 → Unmarked new
zeros_unmarked old new l e = record {
  kept = ap length e ∙ length-replicate (length old) 0 ∙ l;
  none = λ j. rw (e, get_d_zeros (length old) j) refl;
}
