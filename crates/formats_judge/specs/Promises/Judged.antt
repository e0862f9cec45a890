-- Promise. How a verdict is put together: of a text, of elements, of two.
use Rattle.std.specs.Prelude.{List, cond, ◌&&◌, ℕ, zero, suc, length, drop, leb, Option, Some, None}
use Rattle.formats.specs.Readers.{many_r}
use Rattle.formats.specs.Class.{Class, in_class}
use Rattle.basics.specs.Lists.{all}
use Rattle.formats.specs.Format.{Format, Value}
use Rattle.formats.specs.Promises.Outcome.{element}
use Rattle.formats_judge.specs.Judged.{ok, answer, first_failing, judged}

-- a text, for every limit
abbrev pub text_answer : ℕ → Class → List ℕ → ℕ
text_answer limit c v = answer 5 (leb (length v) limit && in_class c v)

abbrev pub verdicts : (f : Format) → List (Value f) → ℕ
verdicts f v = first_failing (all (ok 5 f) v) (all (ok 6 f) v) (all (ok 7 f) v)

-- of two verdicts the one that comes first, where 0 is none
abbrev pub sooner : ℕ → ℕ → ℕ
sooner zero y = y
sooner (suc x) zero = suc x
sooner (suc x) (suc y) = cond (leb (suc x) (suc y)) (suc x) (suc y)

abbrev pub judge_many : Format → ℕ → List ℕ → ℕ → Option (ℕ × ℕ)
judge_many f n s at = judged (verdicts f) s (many_r (element f) n (drop at s))

-- a verdict that was reached before, and what the judge answers
abbrev pub judged_after : ℕ → Option (ℕ × ℕ) → Option (ℕ × ℕ)
judged_after x None = None
judged_after x (Some (p, y)) = Some (p, sooner x y)
