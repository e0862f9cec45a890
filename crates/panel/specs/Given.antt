-- Believe: 01, A word for the test stand. What a compiled call gave: ONE equation with what the definitions give.
use Rattle.std.specs.Prelude.{◌≡◌, List, ℕ}
use Rattle.panel.specs.Questions.{Lengths}
use Rattle.panel.specs.Calls.{Call, Gave, gives}

-- number, every byte of the output, every element of the working buffers
pub record Given (L : Lengths) (old : List ℕ) (c : Call) (number : ℕ) (out : List ℕ)
    (work : List (List ℕ)) : Type 0 where
  pub is : ◌≡◌ {A = Gave} (record { number = number; out = out; work = work }) (gives L old c)
