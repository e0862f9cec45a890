-- `formats::pass` and `formats::pass_many` meet their contracts.
use mathlib.Core.Path.{◌≡◌}
use Prim.Native.Nat.{◌+◌, ◌-◌, ◌<◌}
use native.Mathlib.Omega.{arith}
use Rattle.formats.proofs.Passes.{pass_leaf, list_bad, list_over, list_good, choice_0, choice_1}
use Rattle.formats.proofs.Passes.{choice_2, pair_bad, pair_good, passed_in}
use Rattle.formats.proofs.Passes.{many_flat, many_more}
use Rattle.formats.proofs.+pass_pass_many.Goals as goal

pub pass-returns-in_err-n-in-8 : goal.pass-returns-in_err-n-in-8
pass-returns-in_err-n-in-8 t c = rw c.from_residual.ensures (search (list_bad, c.in_err-n-in-8.was))

pub pass-returns-then-s-p : goal.pass-returns-then-s-p
pass-returns-then-s-p t c = search (list_over, c.in_ok-n-in-8.was)

pub pass-returns-in_err-p-in-10 : goal.pass-returns-in_err-p-in-10
pass-returns-in_err-p-in-10 t c = rw c.from_residual-in_err-p-in-10.ensures (search (pair_bad, c.in_err-p-in-10.was))

pub pass-returns-else-s-p : goal.pass-returns-else-s-p
pass-returns-else-s-p t c = search (list_good, c.in_ok-n-in-8.was)

pub pass-returns-in-0 : goal.pass-returns-in-0
pass-returns-in-0 t c = search choice_0

pub pass-returns-in-1 : goal.pass-returns-in-1
pass-returns-in-1 t c = search choice_1

pub pass-returns-in_default-tag : goal.pass-returns-in_default-tag
pass-returns-in_default-tag t c = search (choice_2, c.in_default-tag)

pub pass-returns-in_ok-p-in-10 : goal.pass-returns-in_ok-p-in-10
pass-returns-in_ok-p-in-10 t c = search (pair_good, c.in_ok-p-in-10.was)

pub pass-returns-in-0-to-7 : goal.pass-returns-in-0-to-7
pass-returns-in-0-to-7 t c = search (pass_leaf, c.in-0-to-7)

pub pass_many-returns-then-q-p : goal.pass_many-returns-then-q-p
pass_many-returns-then-q-p t c = let more : 0 < c.args.n - c.loop.counter = omega arith in search
    (many_flat, c.in_ok-q.was)

pub pass_many-loop-preserved : goal.pass_many-loop-preserved
pass_many-loop-preserved t c =
    let more : 0 < c.args.n - c.loop.counter = omega arith in
    let one : c.args.n - (c.loop.counter + 1) ≡ c.args.n - c.loop.counter - 1 = omega arith in
    (search (passed_in, c.in_ok-q.was), rw one (search (many_more, c.in_ok-q.was)))
