-- `slices::clear_block` meets its contract: what is left as it is was zeros. Assumes nothing.
use mathlib.Core.Path.{sym, ◌∙◌}
use Rattle.slices.specs.Laws.Lists.{zeros_true}
use Rattle.slices.proofs.clear_block.Goals as goal

pub returns-else-not-zero_block : goal.returns-else-not-zero_block
returns-else-not-zero_block c = zeros_true c.args.s.now (sym c.zero_block.ensures ∙ c.if-not-zero_block.false)
