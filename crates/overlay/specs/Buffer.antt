-- Believe: 01, Overlay. The buffer of a state, and the published length.
use Rattle.std.specs.Prelude.{◌≡◌, List, ℕ, ◌≤◌, length}
use Rattle.formats.specs.Format.{write}
use Rattle.overlay.specs.State.{State, overlay}
use Rattle.overlay.specs.Valid.{Held}
use Rattle.overlay.specs.Image.{image}

-- b is the buffer of n bytes of the state s
pub record Buffer (n : ℕ) (s : State) (b : List ℕ) : Type 0 where
  pub is : b ≡ image n s
  pub held : Held s
  pub room : length (write overlay s) ≤ n

-- CAPACITY: the published length is the largest writing, and every state that a buffer holds fits it
abbrev pub published : ℕ
published = 111398044
