-- A loop that writes values one after the other: those that are written and those that are left. Assumes nothing.
use Rattle.std.specs.Prelude.{Option}
use Prim.Native.Nat.{ℕ}
use mathlib.Core.Path.{◌≡◌, refl, sym, ap, ◌∙◌}
use mathlib.Core.List.{List, [], ◌∷◌, ◌++◌, append_assoc, append-nil}
use Rattle.formats.specs.Readers.{many_w}
use Rattle.formats_write.specs.Laws.Adds.{none, then, same}
use Rattle.formats_write.specs.Promises.Adds.{Adds}
use Rattle.formats_read.specs.Laws.Progress.{one_more}

-- of all the values, those in `left` are not yet written
pub record Progress {A : Type 0} (w : A → List ℕ) (l : List ℕ) (r : Option ℕ) (m : List ℕ) (q : Option ℕ)
    (all left : List A) :
    Type 0 where
  pub written : List A
  pub adds : Adds l r m q (many_w w written)
  pub whole : written ++ left ≡ all

module _ {A : Type 0} {w : A → List ℕ} {l : List ℕ} {r : Option ℕ} {all : List A} where
  pub begins : Progress w l r l r all all
  begins = record { written = []; adds = none; whole = refl }

  module _ {m : List ℕ} {q : Option ℕ} where
    pub goes_on : {a : A} {left : List A} {m' : List ℕ} {q' : Option ℕ} → Progress w l r m q all (a ∷ left)
        → Adds m q m' q' (w a) → Progress w l r m' q' all left
    goes_on {a} {left} P b = record {
      written = P.written ++ (a ∷ []);
      adds = same (then P.adds b) (one_more w P.written a);
      whole = append_assoc P.written (a ∷ []) left ∙ P.whole;
    }

    -- the same are left
    pub still : {left left' : List A} → Progress w l r m q all left → left ≡ left' → Progress w l r m q all left'
    still P e = record { written = P.written; adds = P.adds; whole = ap (λ x. P.written ++ x) (sym e) ∙ P.whole }

    -- none is left
    pub is_done : Progress w l r m q all [] → Adds l r m q (many_w w all)
    is_done P = same P.adds (ap (many_w w) (sym (append-nil P.written) ∙ P.whole))
