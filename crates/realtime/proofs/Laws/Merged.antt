-- Law. The messages at a repeated field of merged messages: those of each, one after the other.
use Rattle.std.specs.Prelude.{ℕ, ◌≡◌, refl, List, ◌∷◌, ◌++◌, Bool, true, false, cond, eqb}
use Rattle.std.proofs.Common.{ap, ◌∙◌}
use Rattle.basics.specs.Lists.{concat_map}
use Rattle.realtime.specs.Tree.{Tree, end, num, txt, msg, join, sub, rep}

rep_join : (k : ℕ) (a b : Tree) → rep k (join a b) ≡ rep k a ++ rep k b
rep_join k end b = refl
rep_join k (num f n t) b = rep_join k t b
rep_join k (txt f x t) b = rep_join k t b
rep_join k (msg f u m t) b = go (eqb f k) (rep_join k t b)
  where
    go : (c : Bool) {l : List Tree} → l ≡ rep k t ++ rep k b
        → cond c (m ∷ l) l ≡ cond c (m ∷ rep k t) (rep k t) ++ rep k b
    go true e = ap (m ∷◌) e
    go false e = e

-- THE LAW OF MERGING for a repeated field
pub rep_sub : (k a : ℕ) (t : Tree) → rep k (sub a t) ≡ concat_map (rep k) (rep a t)
rep_sub k a end = refl
rep_sub k a (num f n t) = rep_sub k a t
rep_sub k a (txt f x t) = rep_sub k a t
rep_sub k a (msg f u m t) = go (eqb f a) (rep_sub k a t)
  where
    go : (c : Bool) → rep k (sub a t) ≡ concat_map (rep k) (rep a t)
        → rep k (cond c (join m (sub a t)) (sub a t)) ≡ concat_map (rep k) (cond c (m ∷ rep a t) (rep a t))
    go true e = rep_join k m (sub a t) ∙ ap (λ l. rep k m ++ l) e
    go false e = e
