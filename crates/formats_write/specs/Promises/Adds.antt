-- Promise. An output that is written from its start on, and may be too short: what a writer adds to it, and what it
-- leaves as it was.
use Rattle.std.specs.Prelude.{◌≡◌, List, ◌++◌, ℕ, ◌+◌, ◌≤◌, ◌<◌, length, drop, Option, Some, None}
use Rattle.slices.specs.Lists.{pasted}

-- From the output l and the place r to the output m and the place q a writer has added the bytes x: they stand from
-- its place on, every other byte is as it was, and the next place is past them; or they do not fit, and of the output
-- only its length is known.
pub record Adds (l : List ℕ) (r : Option ℕ) (m : List ℕ) (q : Option ℕ) (x : List ℕ) : Type 0 where
  pub size : length m ≡ length l
  pub full : r ≡ None → q ≡ None
  pub next : (p : ℕ) → r ≡ Some p → p + length x ≤ length l → q ≡ Some (p + length x)
  pub holds : (p : ℕ) → r ≡ Some p → p + length x ≤ length l → m ≡ pasted l p x
  pub over : (p : ℕ) → r ≡ Some p → p ≤ length l → length l < p + length x → q ≡ None

-- From the start of an output: the whole, with what stood behind it as it was; or None, exactly where it is longer
-- than the output.
pub record Wrote (l m : List ℕ) (q : Option ℕ) (x : List ℕ) : Type 0 where
  pub size : length m ≡ length l
  pub next : length x ≤ length l → q ≡ Some (length x)
  pub holds : length x ≤ length l → m ≡ x ++ drop (length x) l
  pub full : length l < length x → q ≡ None
