-- Promise. Bytes written into a list at a place, one after the other.
use Rattle.std.specs.Prelude.{ℕ, ◌+◌, ◌≤◌, ◌≡◌, List, length}
use Rattle.slices.specs.Lists.{pasted}

-- a writer has added x at `at`, and answers the next place
pub record Added (out : List ℕ) (at : ℕ) (x out' : List ℕ) (r : ℕ) : Type 0 where
  pub fits : at + length x ≤ length out
  pub next : r ≡ at + length x
  pub bytes : out' ≡ pasted out at x
