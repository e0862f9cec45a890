-- `formats_judge::judge_many` and `formats_judge::judge_value` meet their contracts.
use mathlib.Core.Path.{◌≡◌}
use Prim.Native.Nat.{◌+◌, ◌-◌, ◌*◌, ◌≤◌}
use lib.ListN.{length}
use Rattle.formats.specs.Promises.Outcome.{format_at}
use Rattle.formats_judge.specs.Promises.Judged.{judge_many, judged_after}
use Rattle.formats_judge.proofs.+judge_many_judge_value.Given as goal

abbrev pub decreases-judge_many : goal.decreases-judge_many
decreases-judge_many l = 2 * l.depth + 1

abbrev pub invariant-judge_many-loop : goal.invariant-judge_many-loop
invariant-judge_many-loop l =
    (l.p ≤ length l.s)
    × (judged_after l.found (judge_many (format_at l.depth l.t l.node) (l.n - l.counter) l.s l.p) ≡
    judged_after l.x (judge_many (format_at l.depth l.t l.node) l.n l.s l.at))

abbrev pub decreases-judge_value : goal.decreases-judge_value
decreases-judge_value l = 2 * l.depth
