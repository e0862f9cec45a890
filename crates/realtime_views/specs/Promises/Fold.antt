-- Promise. What is made of a tree, one field after the other, and a loop over a message that makes it.
use Rattle.std.specs.Prelude.{ℕ, ◌≡◌, List, cond, drop, eqb}
use Rattle.std.proofs.Math.Option.{some}
use Rattle.realtime.specs.Tree.{Schema, Tree, end, num, txt, msg, tree}

-- how each kind of field is taken, over what was made so far
pub record Takes (B : Type 0) : Type 0 where
  pub number : B → ℕ → ℕ → B
  pub text : B → ℕ → List ℕ → B
  pub message : B → ℕ → Tree → B

abbrev pub folded : {B : Type 0} → Takes B → B → Tree → B
folded φ v end = v
folded φ v (num f n t) = folded φ (φ.number v f n) t
folded φ v (txt f x t) = folded φ (φ.text v f x) t
folded φ v (msg f u m t) = folded φ (φ.message v f m) t

-- of a message, those inside it at field k alone
abbrev pub inside : {B : Type 0} → ℕ → Takes B → Takes B
inside k φ = record { number = λ v f n. v; text = λ v f x. v; message = λ v f m. cond (eqb f k) (folded φ v m) v }

-- a reader from `from` on, over v₀, that answers w: where the message is not broken, w is what its fields make
pub record Made {B : Type 0} (φ : Takes B) (v₀ : B) (σ : Schema) (t : ℕ) (s : List ℕ) (from : ℕ) (w : B) : Type 0 where
  pub of : (m : Tree) → tree σ t (drop from s) ≡ some m → w ≡ folded φ v₀ m
