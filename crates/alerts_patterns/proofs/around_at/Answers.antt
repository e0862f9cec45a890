-- `alerts_patterns::around_at` meets its contract.
use Prim.Native.Nat.{◌+◌}
use mathlib.Core.Path.{ap}
use mathlib.Core.Bool.{not}
use native.Mathlib.Omega.{arith}
use lib.ListN.{length}
use Rattle.alerts_patterns.specs.Laws.Searching.{room, not_before, not_name, then_after}
use Rattle.alerts_patterns.proofs.around_at.Goals as goal

pub returns-then-not-begins_at : goal.returns-then-not-begins_at
returns-then-not-begins_at c = search (not_before)

pub overflow_add-j : goal.overflow_add-j
overflow_add-j c =
    let a = c.args in
    omega (arith, room a.before.now a.s.now a.i _ c.begins_at.ensures (ap not c.if-not-begins_at.false))

pub returns-then-not-begins_at-2 : goal.returns-then-not-begins_at-2
returns-then-not-begins_at-2 c = search (not_name)

pub overflow_add-k : goal.overflow_add-k
overflow_add-k c =
    let a = c.args in
    let first =
    room a.before.now a.s.now a.i _ c.begins_at.ensures
    (ap not c.if-not-begins_at.false) in
    omega (
      arith,
      first,
      room a.name.now a.s.now (a.i + length a.before.now) _ c.begins_at-2.ensures
          (ap not c.if-not-begins_at-2.false),
    )

pub returns : goal.returns
returns c = search (then_after)
