-- `slices::fill` meets its contract: the first elements have become x. Assumes nothing.
use Rattle.slices.proofs.Filled.{Filled}
use Rattle.slices.proofs.fill.Given as goal

abbrev pub invariant-loop-y : goal.invariant-loop-y
invariant-loop-y g l = Filled l.initial.y-items l.x l.y-index l.y-items
