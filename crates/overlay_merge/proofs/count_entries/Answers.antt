-- `count_entries` meets its contract.
use native.Mathlib.Omega.{arith}
use Rattle.overlay_merge.specs.Laws.Loops.{count_start, count_on, count_many, count_end}
use Rattle.overlay_merge.proofs.count_entries.Goals as goal

pub loop-i-init : goal.loop-i-init
loop-i-init c = count_start

pub counted-kept-requires : goal.counted-kept-requires
counted-kept-requires c = c.loop-i.invariant.few

pub returns-then-kept-gt1024 : goal.returns-then-kept-gt1024
returns-then-kept-gt1024 c =
    count_many c.loop-i.invariant c.take_turn-t.ensures c.counted-kept.ensures c.if-kept-gt1024.true

pub loop-i-smaller : goal.loop-i-smaller
loop-i-smaller c = c.take_turn-t.ensures.falls

pub loop-i-preserved : goal.loop-i-preserved
loop-i-preserved c =
    count_on c.loop-i.invariant c.take_turn-t.ensures c.counted-kept.ensures c.if-kept-gt1024.false

pub returns : goal.returns
returns c = count_end c.loop-i.invariant (omega arith)
