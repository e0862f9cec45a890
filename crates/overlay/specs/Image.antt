-- Believe: 01, Overlay. The buffer of a state: its writing, and then zeros.
use Rattle.std.specs.Prelude.{ℕ, ◌-◌, Bool, cond, ◌&&◌, List, ◌++◌, eqb, leb, length, replicate}
use Rattle.std.proofs.Math.Option.{Option, none, some}
use Rattle.basics.specs.Lists.{all}
use Rattle.formats.specs.Format.{read, write}
use Rattle.overlay.specs.State.{State, overlay}
use Rattle.overlay.specs.Valid.{valid}

-- bytes, and zeros up to n
unfoldable pub filled : ℕ → List ℕ → List ℕ
filled n x = x ++ replicate (n - length x) 0

unfoldable pub image : ℕ → State → List ℕ
image n s = filled n (write overlay s)

-- whether a state has room in n bytes
unfoldable pub room : ℕ → State → Bool
room n s = leb (length (write overlay s)) n

-- what is read from a buffer, where zeros alone follow and it is valid
abbrev pub held_state : Option (State × List ℕ) → Option State
held_state none = none
held_state (some p) = cond (all (eqb 0) p.1 && valid p.0) (some p.0) none

-- THE STATE OF A BUFFER: none where the buffer is no overlay
unfoldable pub state_of : List ℕ → Option State
state_of b = held_state (read overlay b)
