-- `slices::zero_block` meets its contract: the OR of all is 0 where all are. Assumes nothing.
use mathlib.Core.Path.{ap, ◌∙◌}
use lib.Bits.{bit_or}
use lib.Dec.{eqb}
use Rattle.std.proofs.Common.{rules}
use borrow.Author.Tests.{tests}
use Rattle.std.proofs.lemmas.Iterator.{YieldsList-from_slice}
use Rattle.std.proofs.lemmas.Iterator.Consumers.{fold_from_yields_List}
use Rattle.slices.proofs.Zero.{or_all}
use Rattle.slices.proofs.zero_block.Goals as goal

pub returns : goal.returns
returns c =
    ap (λ n. eqb n 0) (fold_from_yields_List _ bit_or 0 c.fold.result c.fold.ensures.ran
    (YieldsList-from_slice c.args.s.now cc) (λ a x b q k. search (rules, tests)))
    ∙ or_all 0 c.args.s.now
