-- Promise. How a call ends before its output is whole, and its working buffers after it.
use Rattle.std.specs.Prelude.{◌≡◌, List, map, ℕ, length, replicate}
use Rattle.panel.specs.Questions.{Lengths}
use Rattle.panel.specs.Calls.{Call, ends}
use Rattle.panel_output.specs.declared.Ending.{Ending}
use Rattle.panel_output.specs.Promises.Ending.{outcome_of}

-- the call c over the overlay `old` ends so, with l in its output
pub record Ends (L : Lengths) (old : List ℕ) (c : Call) (l : List ℕ) (e : Ending) : Type 0 where
  pub is : outcome_of l e ≡ ends L old c

-- buffers become zeros
pub record Zeros (l m : List (List ℕ)) : Type 0 where
  pub is : m ≡ map (λ n. replicate n 0) (map length l)
