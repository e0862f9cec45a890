-- `formats_check::printables_from` meets its contract.
use mathlib.Core.Path.{◌≡◌}
use Prim.Native.Nat.{◌+◌, ◌-◌, ◌<◌, ◌≤◌}
use native.Mathlib.Omega.{arith}
use Rattle.formats_check.specs.Laws.Checked.{check_in}
use Rattle.formats_check.specs.Laws.Walks.{each_end, each_no, each_so}
use Rattle.formats_check.proofs.printables_from.Goals as goal

pub returns-in_err-p : goal.returns-in_err-p
returns-in_err-p c =
    let more : 0 < c.args.n - c.loop.counter = omega arith in
    rw c.from_residual.ensures (each_no c.loop.invariant.1 more c.printable.ensures c.in_err-p.was)

pub loop-preserved : goal.loop-preserved
loop-preserved c =
    let more : 0 < c.args.n - c.loop.counter = omega arith in
    let one : c.args.n - (c.loop.counter + 1) ≡ c.args.n - c.loop.counter - 1 = omega arith in (
      check_in c.printable.ensures c.in_ok-p.was,
      rw one (each_so c.loop.invariant.1 more c.printable.ensures c.in_ok-p.was),
    )

pub returns : goal.returns
returns c =
    let none : c.args.n - c.loop.counter ≤ 0 = omega arith in
    each_end c.loop.invariant.1 none c.loop.invariant.0
