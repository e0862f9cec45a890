-- Promise. A changed state is written, or it is a 7.
use Rattle.std.specs.Prelude.{◌≡◌, true, false, List, ℕ, Option, None}
use Rattle.formats.specs.Format.{write}
use Rattle.formats_judge.specs.Judged.{ok}
use Rattle.formats_write.specs.Promises.Adds.{Wrote}
use Rattle.overlay.specs.State.{State, overlay}

-- where question 7 has the answer no for s, the writer answers None; else s is written from the start of an output, or
-- has no room there, which is answered by None too
pub record Changes (l m : List ℕ) (q : Option ℕ) (s : State) : Type 0 where
  pub no : ok 7 overlay s ≡ false → q ≡ None
  pub yes : ok 7 overlay s ≡ true → Wrote l m q (write overlay s)
