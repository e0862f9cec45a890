-- Promise. A record that is written part by part: what was added opens it, whatever is added behind.
use Rattle.std.specs.Prelude.{◌≡◌, List, ◌++◌, ℕ, Option}
use Rattle.formats.specs.Format.{Format, Value, write}
use Rattle.formats_write.specs.Promises.Adds.{Adds}

-- with a value u of g behind it, what was added is the value `new u` of f
pub record Opens (f g : Format) (l : List ℕ) (r : Option ℕ) (m : List ℕ) (q : Option ℕ)
    (new : Value g → Value f) : Type 0 where
  pub bytes : List ℕ
  pub adds : Adds l r m q bytes
  pub whole : (u : Value g) → bytes ++ write g u ≡ write f (new u)
