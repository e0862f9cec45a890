-- `overlay_keyed::trips_from` meets its contract.
use mathlib.Core.Path.{◌≡◌}
use Prim.Native.Nat.{◌+◌, ◌-◌, ◌<◌, ◌≤◌}
use native.Mathlib.Omega.{arith}
use Rattle.formats_check.specs.Laws.Climbing.{climbing_start, climbing_bad, climbing_order}
use Rattle.formats_check.specs.Laws.Climbing.{climbing_so, climbing_end, climbing_sum, entered_forward, entered_in}
use Rattle.formats_check.specs.Laws.Climbing.{entered_past}
use Rattle.overlay_noted.specs.Laws.Passes.{unless_no}
use Rattle.overlay_noted.specs.Laws.Entries.{noting_start, noting_kept, noting_on, noting_end}
use Rattle.overlay_keyed.specs.Laws.Trips.{entered_inside, count_plain, count_all, count_other}
use borrow.Author.Rules.{rules}
use Rattle.overlay_keyed.proofs.trips_from.Goals as goal

pub loop-init : goal.loop-init
loop-init c =
    let all : c.args.n - 0 ≡ c.args.n = omega arith in (
      search rules,
      search rules,
      search rules,
      omega arith,
      rw all (search climbing_start),
      rw all noting_start,
    )

pub shape_of-noted-in_err-a : goal.shape_of-noted-in_err-a
shape_of-noted-in_err-a c = search noting_kept

pub returns-in_err-a-clause-climbs : goal.returns-in_err-a-clause-climbs
returns-in_err-a-clause-climbs c =
    let more : 0 < c.args.n - c.loop.counter = omega arith in
    rw c.from_residual.ensures (search (climbing_bad, c.in_err-a.was))

pub returns-in_err-a-clause-unless : goal.returns-in_err-a-clause-unless
returns-in_err-a-clause-unless c = rw c.from_residual.ensures unless_no

pub follows-requires : goal.follows-requires
follows-requires c =
    (omega arith, omega arith, search (entered_forward, c.in_ok-a.was), search (entered_in, c.in_ok-a.was))

pub shape_of-noted-then-not-follows : goal.shape_of-noted-then-not-follows
shape_of-noted-then-not-follows c = search noting_kept

pub returns-then-not-follows-clause-climbs : goal.returns-then-not-follows-clause-climbs
returns-then-not-follows-clause-climbs c =
    let more : 0 < c.args.n - c.loop.counter = omega arith in
    search (climbing_order, c.in_ok-a.was)

pub returns-then-not-follows-clause-unless : goal.returns-then-not-follows-clause-unless
returns-then-not-follows-clause-unless c = unless_no

pub adds-m-requires-clause-inside : goal.adds-m-requires-clause-inside
adds-m-requires-clause-inside c = search (entered_inside, c.in_ok-a.was)

pub loop-preserved : goal.loop-preserved
loop-preserved c =
    let more : 0 < c.args.n - c.loop.counter = omega arith in
    let one : c.args.n - (c.loop.counter + 1) ≡ c.args.n - c.loop.counter - 1 = omega arith in (
      search (entered_past, c.in_ok-a.was),
      search (entered_forward, c.in_ok-a.was),
      search (entered_in, c.in_ok-a.was),
      omega arith,
      rw one (search (climbing_so, c.in_ok-a.was)),
      rw one (search (noting_on, c.in_ok-a.was)),
    )

pub shape_of-noted-then-c-m : goal.shape_of-noted-then-c-m
shape_of-noted-then-c-m c = search noting_kept

pub returns-then-c-m-clause-climbs : goal.returns-then-c-m-clause-climbs
returns-then-c-m-clause-climbs c =
    let done : c.args.n - c.loop.counter ≤ 0 = omega arith in
    search (climbing_end, count_plain)

pub returns-then-c-m-clause-unless : goal.returns-then-c-m-clause-unless
returns-then-c-m-clause-unless c =
    let done : c.args.n - c.loop.counter ≤ 0 = omega arith in
    search noting_end

pub shape_of-noted-then-c-n : goal.shape_of-noted-then-c-n
shape_of-noted-then-c-n c = search noting_kept

pub returns-then-c-n-clause-climbs : goal.returns-then-c-n-clause-climbs
returns-then-c-n-clause-climbs c =
    let done : c.args.n - c.loop.counter ≤ 0 = omega arith in
    search (climbing_end, count_all)

pub returns-then-c-n-clause-unless : goal.returns-then-c-n-clause-unless
returns-then-c-n-clause-unless c =
    let done : c.args.n - c.loop.counter ≤ 0 = omega arith in
    search noting_end

pub shape_of-noted : goal.shape_of-noted
shape_of-noted c = search noting_kept

pub returns-clause-climbs : goal.returns-clause-climbs
returns-clause-climbs c =
    let done : c.args.n - c.loop.counter ≤ 0 = omega arith in
    search (climbing_sum, count_other)

pub returns-clause-unless : goal.returns-clause-unless
returns-clause-unless c = unless_no
