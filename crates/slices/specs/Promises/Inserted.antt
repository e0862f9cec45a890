-- Promise. A value that goes into a list.
use Rattle.std.specs.Prelude.{List, ◌∷◌, ◌++◌, ℕ, ◌+◌, ◌-◌, take, drop}

-- a with v at `at`, and what stood from there to `end` one place on
abbrev pub inserted : List ℕ → ℕ → ℕ → ℕ → List ℕ
inserted a at end v = take at a ++ v ∷ (take (end - at) (drop at a) ++ drop (end + 1) a)
