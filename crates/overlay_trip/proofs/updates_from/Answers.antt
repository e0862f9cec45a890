-- `overlay_trip::updates_from` meets its contract.
use mathlib.Core.Path.{◌≡◌}
use Prim.Native.Nat.{◌+◌, ◌-◌, ◌<◌, ◌≤◌}
use native.Mathlib.Omega.{arith}
use borrow.Author.Rules.{rules}
use Rattle.formats_check.specs.Laws.Checked.{check_in}
use Rattle.formats_check.specs.Laws.Rising.{rising_start, rising_no, rising_low, rising_high, rising_rest}
use Rattle.formats_check.specs.Laws.Rising.{rising_so, rising_end}
use Rattle.overlay_trip.proofs.updates_from.Goals as goal

pub loop-init : goal.loop-init
loop-init c =
    let all : c.args.n - 0 ≡ c.args.n = omega arith in
    (search rules, rw all (search rising_start))

pub returns-in_err-k : goal.returns-in_err-k
returns-in_err-k c =
    let more : 0 < c.args.n - c.loop.counter = omega arith in
    rw c.from_residual.ensures (search (rising_no, c.in_err-k.was))

pub returns-then-k-low : goal.returns-then-k-low
returns-then-k-low c =
    let more : 0 < c.args.n - c.loop.counter = omega arith in
    search (rising_low, c.in_ok-k.was)

pub returns-then-k-gt4294967295 : goal.returns-then-k-gt4294967295
returns-then-k-gt4294967295 c =
    let more : 0 < c.args.n - c.loop.counter = omega arith in
    search (rising_high, c.in_ok-k.was)

pub returns-in_err-p : goal.returns-in_err-p
returns-in_err-p c =
    let more : 0 < c.args.n - c.loop.counter = omega arith in
    rw c.from_residual-in_err-p.ensures (search (rising_rest, c.in_ok-k.was, c.in_err-p.was))

pub loop-preserved : goal.loop-preserved
loop-preserved c =
    let more : 0 < c.args.n - c.loop.counter = omega arith in
    let one : c.args.n - (c.loop.counter + 1) ≡ c.args.n - c.loop.counter - 1 = omega arith in (
      search (check_in, c.in_ok-p.was),
      rw one (search (rising_so, c.in_ok-k.was, c.in_ok-p.was)),
    )

pub returns : goal.returns
returns c =
    let done : c.args.n - c.loop.counter ≤ 0 = omega arith in
    search rising_end
