-- Promise. The next message at a field of a message, whatever else stands in it.
use Rattle.std.specs.Prelude.{ℕ, ◌≡◌, List, [], ◌∷◌, take, drop, Option, Some, None}
use Rattle.std.proofs.Math.Option.{some}
use Rattle.realtime.specs.Tree.{a_message, Schema, Tree, tree, rep}
use Rattle.realtime_read.specs.Promises.Steps.{Lies}

-- at field k of a message of type t stand messages of type u. No field has the number 0
abbrev pub Holding : Schema → ℕ → ℕ → ℕ → Type 0
Holding σ t k u = (k ≡ 0 → ⊥) → σ t k ≡ some (a_message u)

-- of the messages at field k of the tree m the first is found, and the others stand behind it; or there is none
abbrev pub Finds : Schema → ℕ → ℕ → ℕ → List ℕ → Tree → Option (ℕ × ℕ × ℕ) → Type 0
Finds σ t k u s m (Some (i, l, n)) =
    (x : Tree) × (y : Tree) × (rep k m ≡ x ∷ rep k y) × (tree σ u (take l (drop i s)) ≡ some x)
    × (tree σ t (drop n s) ≡ some y)
Finds σ t k u s m None = rep k m ≡ []

abbrev pub FoundAt : List ℕ → ℕ → Option (ℕ × ℕ × ℕ) → Type 0
FoundAt s from (Some (i, l, n)) = Lies s from i l n
FoundAt s from None = Unit {0}

-- THE ANSWER r, whatever type the message has: where it is not broken, the first of those that stand there
pub record Seeks (σ : Schema) (k : ℕ) (s : List ℕ) (from : ℕ) (r : Option (ℕ × ℕ × ℕ)) : Type 0 where
  pub of : (t u : ℕ) → Holding σ t k u → (m : Tree) → tree σ t (drop from s) ≡ some m → Finds σ t k u s m r
  pub lying : FoundAt s from r
