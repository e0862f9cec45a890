-- Law. Messages at a field: all of them joined are those that are found, one after the other.
use Rattle.std.specs.Prelude.{ℕ, ◌≡◌, refl, List, [], ◌∷◌, ◌++◌, Bool, true, false, cond, eqb, Option}
use Rattle.std.proofs.Common.{sym, ap, subst, ◌∙◌}
use Rattle.realtime.specs.Tree.{Schema, Tree, end, num, txt, msg, join, sub, rep}
use Rattle.realtime_views.specs.Promises.Seeks.{Seeks}

-- an answer, by what it was taken apart to
pub seek_is : {σ : Schema} {k : ℕ} {s : List ℕ} {at : ℕ} {r q : Option (ℕ × ℕ × ℕ)} → Seeks σ k s at r → r ≡ q
    → Seeks σ k s at q
seek_is {σ} {k} {s} {at} S e = subst (λ j. Seeks σ k s at j) e S

abbrev joined : List Tree → Tree
joined [] = end
joined (x ∷ l) = join x (joined l)

sub_joined : (k : ℕ) (m : Tree) → sub k m ≡ joined (rep k m)
sub_joined k end = refl
sub_joined k (num f n m) = sub_joined k m
sub_joined k (txt f x m) = sub_joined k m
sub_joined k (msg f u x m) = ap (λ y. cond (eqb f k) (join x y) y) (sub_joined k m) ∙ go (eqb f k)
  where
    go : (b : Bool) → cond b (join x (joined (rep k m))) (joined (rep k m)) ≡ joined (cond b (x ∷ rep k m) (rep k m))
    go true = refl
    go false = refl

-- the first, and the others behind it
pub sub_first : (k : ℕ) (m x y : Tree) → rep k m ≡ x ∷ rep k y → sub k m ≡ join x (sub k y)
sub_first k m x y e = sub_joined k m ∙ ap joined e ∙ ap (join x) (sym (sub_joined k y))

pub sub_none : (k : ℕ) (m : Tree) → rep k m ≡ [] → sub k m ≡ end
sub_none k m e = sub_joined k m ∙ ap joined e

pub rep_join : (k : ℕ) (m n : Tree) → rep k (join m n) ≡ rep k m ++ rep k n
rep_join k end n = refl
rep_join k (num f v m) n = rep_join k m n
rep_join k (txt f x m) n = rep_join k m n
rep_join k (msg f u x m) n = ap (λ l. cond (eqb f k) (x ∷ l) l) (rep_join k m n) ∙ go (eqb f k)
  where
    go : (b : Bool) → cond b (x ∷ (rep k m ++ rep k n)) (rep k m ++ rep k n) ≡ cond b (x ∷ rep k m) (rep k m) ++ rep k n
    go true = refl
    go false = refl
