-- `formats_judge::judge_many` and `formats_judge::judge_value` meet their contracts.
use mathlib.Core.Path.{◌≡◌}
use Prim.Native.Nat.{◌+◌, ◌-◌, ◌<◌, ◌≤◌}
use native.Mathlib.Omega.{arith}
use Rattle.formats_judge.proofs.Judging.{value_leaf, list_bad, list_over, list_good, choice_0, choice_1, choice_2}
use Rattle.formats_judge.proofs.Judging.{pair_bad, pair_bad_2, pair_good, judged_in, many_none, many_flat, many_more}
use Rattle.formats_judge.proofs.+judge_many_judge_value.Goals as goal

pub judge_many-returns-then-q-p : goal.judge_many-returns-then-q-p
judge_many-returns-then-q-p t c = let more : 0 < c.args.n - c.loop.counter = omega arith in search
    (many_flat, c.in_ok-q.was)

pub judge_many-loop-preserved : goal.judge_many-loop-preserved
judge_many-loop-preserved t c =
    let more : 0 < c.args.n - c.loop.counter = omega arith in
    let one : c.args.n - (c.loop.counter + 1) ≡ c.args.n - c.loop.counter - 1 = omega arith in
    (search (judged_in, c.in_ok-q.was), rw one (search (many_more, c.in_ok-q.was)))

pub judge_many-returns : goal.judge_many-returns
judge_many-returns t c = let none : c.args.n - c.loop.counter ≤ 0 = omega arith in search many_none

pub judge_value-returns-in_err-n-in-8 : goal.judge_value-returns-in_err-n-in-8
judge_value-returns-in_err-n-in-8 t c = rw c.from_residual.ensures (search (list_bad, c.in_err-n-in-8.was))

pub judge_value-returns-then-s-p : goal.judge_value-returns-then-s-p
judge_value-returns-then-s-p t c = search (list_over, c.in_ok-n-in-8.was)

pub judge_value-returns-in_err-p-in-10 : goal.judge_value-returns-in_err-p-in-10
judge_value-returns-in_err-p-in-10 t c =
    rw c.from_residual-in_err-p-in-10.ensures (search (pair_bad, c.in_err-p-in-10.was))

pub judge_value-returns-in_err-q-in-10 : goal.judge_value-returns-in_err-q-in-10
judge_value-returns-in_err-q-in-10 t c =
    rw c.from_residual-in_err-q-in-10.ensures (search (pair_bad_2, c.in_ok-p-in-10.was, c.in_err-q-in-10.was))

pub judge_value-returns-else-s-p : goal.judge_value-returns-else-s-p
judge_value-returns-else-s-p t c = search (list_good, c.in_ok-n-in-8.was)

pub judge_value-returns-in-0 : goal.judge_value-returns-in-0
judge_value-returns-in-0 t c = search choice_0

pub judge_value-returns-in-1 : goal.judge_value-returns-in-1
judge_value-returns-in-1 t c = search choice_1

pub judge_value-returns-in_default-tag : goal.judge_value-returns-in_default-tag
judge_value-returns-in_default-tag t c = search (choice_2, c.in_default-tag)

pub judge_value-returns-in_ok-q-in-10 : goal.judge_value-returns-in_ok-q-in-10
judge_value-returns-in_ok-q-in-10 t c = search (pair_good, c.in_ok-p-in-10.was, c.in_ok-q-in-10.was)

pub judge_value-returns-in-0-to-7 : goal.judge_value-returns-in-0-to-7
judge_value-returns-in-0-to-7 t c = search (value_leaf, c.in-0-to-7)
