-- `slices::compare` meets its contract: std's order is the order by bytes. Assumes nothing.
use mathlib.Core.Path.{◌∙◌}
use Rattle.slices.proofs.Ordered.{lex_is}
use Rattle.slices.proofs.compare.Goals as goal

pub returns : goal.returns
returns c = c.cmp.ensures ∙ lex_is c.args.a.now c.args.b.now
