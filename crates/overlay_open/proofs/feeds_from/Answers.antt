-- `overlay_open::feeds_from` meets its contract.
use mathlib.Core.Path.{◌≡◌}
use Prim.Native.Nat.{◌≤◌, ◌+◌, ◌-◌, ◌<◌}
use native.Mathlib.Omega.{arith}
use Rattle.formats_check.specs.Laws.Climbing.{climbing_start, climbing_bad}
use Rattle.formats_check.specs.Laws.Climbing.{climbing_order, climbing_on, climbing_end, entered_forward, entered_in}
use Rattle.formats_check.specs.Laws.Climbing.{entered_past}
use Rattle.overlay_noted.specs.Laws.Passes.{unless_no}
use Rattle.overlay_open.specs.Laws.Feeds.{feeding_start, feeding_on, feeding_end}
use borrow.Author.Rules.{rules}
use Rattle.overlay_open.proofs.feeds_from.Goals as goal

pub loop-r-init : goal.loop-r-init
loop-r-init c =
    let all : c.args.n - 0 ≡ c.args.n = omega arith in (
      search rules,
      search rules,
      search rules,
      search rules,
      rw all (search climbing_start),
      rw all feeding_start,
    )

pub returns-in_err-a-clause-climbs : goal.returns-in_err-a-clause-climbs
returns-in_err-a-clause-climbs c =
    let more : 0 < c.args.n - c.loop-r.r = omega arith in
    rw c.from_residual.ensures (search (climbing_bad, c.in_err-a.was))

pub returns-in_err-a-clause-unless : goal.returns-in_err-a-clause-unless
returns-in_err-a-clause-unless c = rw c.from_residual.ensures unless_no

pub follows-requires : goal.follows-requires
follows-requires c =
    (omega arith, omega arith, search (entered_forward, c.in_ok-a.was), search (entered_in, c.in_ok-a.was))

pub returns-then-not-follows-clause-climbs : goal.returns-then-not-follows-clause-climbs
returns-then-not-follows-clause-climbs c =
    let more : 0 < c.args.n - c.loop-r.r = omega arith in
    search (climbing_order, c.in_ok-a.was)

pub returns-then-not-follows-clause-unless : goal.returns-then-not-follows-clause-unless
returns-then-not-follows-clause-unless c = unless_no

pub loop-r-preserved : goal.loop-r-preserved
loop-r-preserved c =
    let more : 0 < c.args.n - c.loop-r.r = omega arith in
    let one : c.args.n - (c.loop-r.r + 1) ≡ c.args.n - c.loop-r.r - 1 = omega arith in (
      search (entered_past, c.in_ok-a.was),
      search (entered_forward, c.in_ok-a.was),
      search (entered_in, c.in_ok-a.was),
      search rules,
      rw one (search (climbing_on, c.in_ok-a.was)),
      rw one (search (feeding_on, c.in_ok-a.was)),
    )

pub returns-clause-climbs : goal.returns-clause-climbs
returns-clause-climbs c =
    let done : c.args.n - c.loop-r.r ≤ 0 = omega arith in
    search climbing_end

pub returns-clause-unless : goal.returns-clause-unless
returns-clause-unless c =
    let done : c.args.n - c.loop-r.r ≤ 0 = omega arith in
    search feeding_end
