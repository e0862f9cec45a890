-- Law. A field that is passed, whatever the schema says of it: the tree behind it is the tree but for that field.
use Rattle.std.specs.Prelude.{ℕ, ◌≤◌, ◌<◌, ◌≡◌, List, ◌∷◌, cond, length, drop}
use Rattle.std.proofs.Common.{ap, ◌∙◌, ne_eqb}
use Rattle.std.proofs.Math.Option.{some}
use Rattle.realtime.specs.Tree.{Schema, Tree, num, txt, msg, tree, rep}

-- m is y, or y with the field f in front
pub data Besides (f : ℕ) (m y : Tree) : Type 0 where
  beside_nothing : m ≡ y → Besides f m y
  beside_number : (v : ℕ) → m ≡ num f v y → Besides f m y
  beside_text : (x : List ℕ) → m ≡ txt f x y → Besides f m y
  beside_message : (u : ℕ) (x : Tree) → m ≡ msg f u x y → Besides f m y

-- the field f stands in s from `at` up to n
pub record Passed (σ : Schema) (t : ℕ) (s : List ℕ) (at f n : ℕ) : Type 0 where
  pub ahead : at < n
  pub inside : n ≤ length s
  pub of : (m : Tree) → tree σ t (drop at s) ≡ some m
      → (y : Tree) × (tree σ t (drop n s) ≡ some y) × Besides f m y

-- the messages at another field are the same
pub besides_rep : {f k : ℕ} → (f ≡ k → ⊥) → {m y : Tree} → Besides f m y → rep k m ≡ rep k y
besides_rep {k = k} h (beside_nothing e) = ap (rep k) e
besides_rep {k = k} h (beside_number v e) = ap (rep k) e
besides_rep {k = k} h (beside_text x e) = ap (rep k) e
besides_rep {f} {k} h {y = y} (beside_message u x e) =
    ap (rep k) e ∙ ap (λ b. cond b (x ∷ rep k y) (rep k y)) (ne_eqb f k h)
