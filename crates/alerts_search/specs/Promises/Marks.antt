-- Promise. The marks of the alerts that were met, as a set of numbers below 256: what is marked, one mark more, none.
use Rattle.std.specs.Prelude.{◌≡◌, List, Bool, false, not, ◌||◌, ℕ, eqb, length, get_or}

-- how many elements the marks take
abbrev pub most_marks : ℕ
most_marks = 256

abbrev pub marked : List ℕ → ℕ → Bool
marked m i = not (eqb (get_or m i 0) 0)

pub record Marks (old new : List ℕ) (i : ℕ) : Type 0 where
  pub kept : length new ≡ length old
  pub marks : (j : ℕ) → marked new j ≡ marked old j || eqb j i

pub record Unmarked (new : List ℕ) : Type 0 where
  pub kept : length new ≡ most_marks
  pub none : (j : ℕ) → marked new j ≡ false
