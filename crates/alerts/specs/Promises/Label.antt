-- Promise. A place where the first characters of a text end.
use Rattle.std.specs.Prelude.{◌≡◌, List, ℕ, ◌≤◌, length, take}
use Rattle.alerts.specs.Label.{characters}

-- a place where the first n characters end
pub record Ends (s : List ℕ) (n r : ℕ) : Type 0 where
  pub within : r ≤ length s
  pub taken : take r s ≡ characters n s
