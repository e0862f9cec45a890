-- `slices::fill` meets its contract: the first elements have become x. Assumes nothing.
use borrow.Author.Rules.{rules}
use Rattle.slices.proofs.Filled.{filled_more}
use Rattle.slices.proofs.fill.Goals as goal

pub loop-y-preserved : goal.loop-y-preserved
loop-y-preserved g c = filled_more c.loop-y.invariant (search rules)
