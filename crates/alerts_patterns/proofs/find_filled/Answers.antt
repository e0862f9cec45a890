-- `alerts_patterns::find_filled` meets its contract.
use mathlib.Core.Path.{sym}
use native.Mathlib.Omega.{arith}
use lib.Seq.{length-take-le}
use Rattle.alerts_patterns.specs.Laws.Patterns.{unfilled, fills}
use Rattle.alerts_patterns.proofs.find_filled.Goals as goal

pub returns-then-pattern-h : goal.returns-then-pattern-h
returns-then-pattern-h c = search (unfilled)

pub slice_bounds-find_around-end : goal.slice_bounds-find_around-end
slice_bounds-find_around-end c =
    sym
    (length-take-le c.next-h.result
    c.args.pattern.now (omega arith))

pub returns : goal.returns
returns c = search (fills)
