-- `overlay_records::vehicles_from` meets its contract.
use mathlib.Core.Path.{◌≡◌}
use Prim.Native.Nat.{◌+◌, ◌-◌, ◌<◌, ◌≤◌}
use native.Mathlib.Omega.{arith}
use Rattle.formats_check.specs.Laws.Climbing.{climbing_start, climbing_bad}
use Rattle.formats_check.specs.Laws.Climbing.{climbing_order, climbing_on, climbing_end, entered_forward, entered_in}
use Rattle.formats_check.specs.Laws.Climbing.{entered_past}
use borrow.Author.Rules.{rules}
use Rattle.overlay_records.proofs.vehicles_from.Goals as goal

pub loop-init : goal.loop-init
loop-init c =
    let all : c.args.n - 0 ≡ c.args.n = omega arith in
    (search rules, search rules, search rules, rw all (search climbing_start))

pub returns-in_err-a : goal.returns-in_err-a
returns-in_err-a c =
    let more : 0 < c.args.n - c.loop.counter = omega arith in
    rw c.from_residual.ensures (search (climbing_bad, c.in_err-a.was))

pub follows-requires : goal.follows-requires
follows-requires c =
    (omega arith, omega arith, search (entered_forward, c.in_ok-a.was), search (entered_in, c.in_ok-a.was))

pub returns-then-not-follows : goal.returns-then-not-follows
returns-then-not-follows c =
    let more : 0 < c.args.n - c.loop.counter = omega arith in
    search (climbing_order, c.in_ok-a.was)

pub loop-preserved : goal.loop-preserved
loop-preserved c =
    let more : 0 < c.args.n - c.loop.counter = omega arith in
    let one : c.args.n - (c.loop.counter + 1) ≡ c.args.n - c.loop.counter - 1 = omega arith in (
      search (entered_past, c.in_ok-a.was),
      search (entered_forward, c.in_ok-a.was),
      search (entered_in, c.in_ok-a.was),
      rw one (search (climbing_on, c.in_ok-a.was)),
    )

pub returns : goal.returns
returns c =
    let done : c.args.n - c.loop.counter ≤ 0 = omega arith in
    search climbing_end
