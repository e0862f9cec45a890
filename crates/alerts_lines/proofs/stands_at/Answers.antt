-- `alerts_lines::stands_at` meets its contract.
use mathlib.Core.Path.{ap}
use mathlib.Core.Bool.{not}
use native.Mathlib.Omega.{arith}
use Rattle.alerts_lines.specs.Laws.Marking.{stands_not, stands_then, stands_room}
use Rattle.alerts_lines.proofs.stands_at.Goals as goal

pub returns-then-not-line_at : goal.returns-then-not-line_at
returns-then-not-line_at c = search (stands_not)

pub overflow_add-i : goal.overflow_add-i
overflow_add-i c =
    let a = c.args in
    omega (
      arith,
      stands_room a.s.now a.afters.now a.j a.k _ c.line_at.ensures c.width.result
          (ap not c.if-not-line_at.false) c.requires c.width.ensures,
    )

pub returns : goal.returns
returns c = search (stands_then)
