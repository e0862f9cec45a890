-- Promise. The table of product codes as the code keeps it, and a name written into a lent slice.
use Rattle.std.specs.Prelude.{◌≡◌, List, [], ◌∷◌, ℕ, zero, suc, ◌+◌, ◌≤◌, length, take, drop, Option, Some, None}
use Rattle.std.proofs.Math.Option.{Option as LogicOption, none, some}
use Rattle.alerts.specs.Text.{upper, trim_end}

-- n rows of nine bytes: a code, and a name filled with spaces
abbrev pub name_in : List ℕ → ℕ → List ℕ
name_in t at = trim_end (take 3 (drop (at + 6) t))

abbrev pub rows : ℕ → List ℕ → List (List ℕ × List ℕ)
rows zero t = []
rows (suc n) t = (upper (take 6 t), trim_end (take 3 (drop 6 t))) ∷ rows n (drop 9 t)

-- the name takes the first r bytes
pub record Wrote (name : List ℕ) (r : ℕ) (old new : List ℕ) : Type 0 where
  pub kept : length new ≡ length old
  pub within : r ≤ length new
  pub is : take r new ≡ name

abbrev pub shown_in : List ℕ → Option ℕ → LogicOption (List ℕ)
shown_in new (Some n) = some (take n new)
shown_in new None = none

abbrev pub taken : Option ℕ → ℕ
taken (Some n) = n
taken None = 0

pub record Named (o : LogicOption (List ℕ)) (r : Option ℕ) (old new : List ℕ) : Type 0 where
  pub kept : length new ≡ length old
  pub within : taken r ≤ length new
  pub is : o ≡ shown_in new r
