-- Promise. How the code says where a text is found, and how far a search may skip.
use Rattle.std.specs.Prelude.{◌≡◌, List, [], ◌∷◌, Bool, true, false, ◌&&◌, ◌||◌, ℕ, ◌+◌, ◌≤◌, ◌<◌, eqb, leb, length, get_or, drop, Option, Some, None}
use Rattle.std.proofs.Math.Option.{Option as LogicOption, none, some}
use Rattle.alerts.specs.Text.{begins}

abbrev pub found_of : LogicOption ℕ → Option ℕ
found_of none = None
found_of (some i) = Some i

-- p stands nowhere from i on before r
pub record Skips (p s : List ℕ) (i r : ℕ) : Type 0 where
  pub forward : i ≤ r
  pub within : r ≤ length s
  pub none_here : (k : ℕ) → i ≤ k → k < r → begins p (drop k s) ≡ false

-- `before`, and behind it a byte from the first of `first` to its second, stand nowhere from i on before r
pub record SkipsName (before first s : List ℕ) (i r : ℕ) : Type 0 where
  pub forward : i ≤ r
  pub within : r ≤ length s
  pub none_here : (k : ℕ) → i ≤ k → k < r → begins before (drop k s) ≡ true → k + length before < length s
      → get_or first 0 0 ≤ get_or s (k + length before) 0 → get_or s (k + length before) 0 ≤ get_or first 1 255 → ⊥

-- no a stands with a byte from lo to hi at d bytes on, from i on before r
pub record Seeks (a d lo hi : ℕ) (s : List ℕ) (i r : ℕ) : Type 0 where
  pub forward : i ≤ r
  pub within : r ≤ length s
  pub none_here : (k : ℕ) → i ≤ k → k < r → k + d < length s → get_or s k 0 ≡ a → lo ≤ get_or s (k + d) 0
      → get_or s (k + d) 0 ≤ hi → ⊥

-- the same, up to e
pub record SeeksTo (a d lo hi : ℕ) (s : List ℕ) (i e r : ℕ) : Type 0 where
  pub seeks : Seeks a d lo hi s i r
  pub up : r ≤ e

-- whether a number lies from lo to hi
abbrev pub between : ℕ → ℕ → ℕ → Bool
between lo hi x = leb lo x && leb x hi

-- two lists have a and a number from lo to hi at one place
abbrev pub any_pair : ℕ → ℕ → ℕ → List ℕ → List ℕ → Bool
any_pair a lo hi [] y = false
any_pair a lo hi (p ∷ x) [] = false
any_pair a lo hi (p ∷ x) (q ∷ y) = let r = any_pair a lo hi x y in eqb p a && between lo hi q || r
