-- Promise. A piece of a key: bytes that stand at a place, up to an end.
use Rattle.std.specs.Prelude.{◌≡◌, List, ◌++◌, ℕ, ◌-◌, ◌≤◌, length, take, drop, Option, Some, None}

-- the bytes from a up to e
abbrev pub bytes : List ℕ → ℕ → ℕ → List ℕ
bytes s a e = take (e - a) (drop a s)

pub record Inside (s : List ℕ) (a e : ℕ) : Type 0 where
  pub forward : a ≤ e
  pub within : e ≤ length s

-- x stands at `at`, and the place past it; or what stands from there up to e does not begin with it
abbrev pub Pieced : List ℕ → List ℕ → ℕ → ℕ → Option ℕ → Type 0
Pieced x s at e (Some m) = (at ≤ m) × (m ≤ e) × (bytes s at m ≡ x)
Pieced x s at e None = (z : List ℕ) → bytes s at e ≡ x ++ z → ⊥

pub record Piece (x s : List ℕ) (at e : ℕ) (r : Option ℕ) : Type 0 where
  pub tells : Pieced x s at e r

-- a place that is past one place and not past another
abbrev pub Moved : ℕ → ℕ → Option ℕ → Type 0
Moved at e (Some m) = (at ≤ m) × (m ≤ e)
Moved at e None = Unit {0}

pub record Moves (at e : ℕ) (r : Option ℕ) : Type 0 where
  pub tells : Moved at e r
