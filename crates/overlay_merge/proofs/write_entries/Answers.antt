-- `write_entries` meets its contract.
use mathlib.Core.Path.{refl}
use native.Mathlib.Omega.{arith}
use borrow.Author.Rules.{rules}
use Rattle.overlay_merge.specs.Laws.Loops.{write_start, write_on, write_end}
use Rattle.overlay_merge.proofs.write_entries.Goals as goal

pub loop-i-init : goal.loop-i-init
loop-i-init c = (refl, write_start)

pub loop-i-smaller : goal.loop-i-smaller
loop-i-smaller c = c.take_turn-t.ensures.falls

pub loop-i-preserved : goal.loop-i-preserved
loop-i-preserved c =
    let I = c.loop-i.invariant in
    (search rules, write_on I.1 c.take_turn-t.ensures c.write_entry-k.ensures)

pub shape_of-out : goal.shape_of-out
shape_of-out c = c.loop-i.invariant.0

pub returns : goal.returns
returns c = write_end c.loop-i.invariant.1 (omega arith)
