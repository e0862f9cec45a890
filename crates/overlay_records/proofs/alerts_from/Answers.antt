-- `overlay_records::alerts_from` meets its contract.
use mathlib.Core.Path.{◌≡◌}
use Prim.Native.Nat.{◌+◌, ◌-◌, ◌<◌, ◌≤◌}
use native.Mathlib.Omega.{arith}
use Rattle.formats_check.specs.Laws.Checked.{check_in}
use Rattle.formats_check.specs.Laws.Walks.{each_end, each_no, each_so, each_start}
use borrow.Author.Rules.{rules}
use Rattle.overlay_records.proofs.alerts_from.Goals as goal

pub loop-init : goal.loop-init
loop-init c =
    let all : c.args.n - 0 ≡ c.args.n = omega arith in
    (search rules, rw all (search each_start))

pub returns-in_err-p : goal.returns-in_err-p
returns-in_err-p c =
    let more : 0 < c.args.n - c.loop.counter = omega arith in
    rw c.from_residual.ensures (search (each_no, c.in_err-p.was))

pub loop-preserved : goal.loop-preserved
loop-preserved c =
    let more : 0 < c.args.n - c.loop.counter = omega arith in
    let one : c.args.n - (c.loop.counter + 1) ≡ c.args.n - c.loop.counter - 1 = omega arith in
    (search (check_in, c.in_ok-p.was), rw one (search (each_so, c.in_ok-p.was)))

pub returns : goal.returns
returns c =
    let done : c.args.n - c.loop.counter ≤ 0 = omega arith in
    search each_end
