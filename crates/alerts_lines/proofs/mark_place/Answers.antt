-- `alerts_lines::mark_place` meets its contract.
use Rattle.alerts_patterns.specs.Laws.Searching.{room}
use mathlib.Core.Path.{ap}
use mathlib.Core.Bool.{not}
use native.Mathlib.Omega.{arith}
use Rattle.alerts_lines.specs.Laws.Marking.{place_none, place_here}
use Rattle.alerts_lines.proofs.mark_place.Goals as goal

pub returns-then-not-begins_at : goal.returns-then-not-begins_at
returns-then-not-begins_at c = search (place_none)

pub overflow_add-j : goal.overflow_add-j
overflow_add-j c =
    let a = c.args in
    omega (arith, room a.before.now a.s.now a.i _ c.begins_at.ensures (ap not c.if-not-begins_at.false))

pub returns : goal.returns
returns c = search (place_here)
