-- `locate` meets its contract.
use mathlib.Core.Path.{◌≡◌}
use Prim.Native.Nat.{◌+◌, ◌-◌, ◌<◌}
use native.Mathlib.Omega.{arith}
use Rattle.formats_read.proofs.Locating
use Rattle.formats.proofs.Passes.{passed_in}
use Rattle.formats_read.proofs.locate.Goals as goal

pub returns-then-d-eq0 : goal.returns-then-d-eq0
returns-then-d-eq0 c = let more : 0 < c.args.k - c.loop.counter = omega arith in search (Locating.field_none)

pub returns-then-kind-ne-PAIR : goal.returns-then-kind-ne-PAIR
returns-then-kind-ne-PAIR c = let more : 0 < c.args.k - c.loop.counter = omega arith in search (Locating.field_other)

pub returns-in_err-p : goal.returns-in_err-p
returns-in_err-p c =
    let more : 0 < c.args.k - c.loop.counter = omega arith in
    rw c.from_residual.ensures (search (Locating.field_bad, c.in_err-p.was))

pub loop-preserved : goal.loop-preserved
loop-preserved c =
    let more : 0 < c.args.k - c.loop.counter = omega arith in
    let one : c.args.k - (c.loop.counter + 1) ≡ c.args.k - c.loop.counter - 1 = omega arith in
    (search (passed_in, c.in_ok-p.was), rw one (search (Locating.field_more, c.in_ok-p.was)))
