-- `slices::insert` meets its contract: what goes round by one place makes room. Assumes nothing.
use borrow.Author.Rules.{rules}
use mathlib.Core.Path.{refl}
use Rattle.slices.proofs.Gaps.{gap_turned}
use Rattle.slices.proofs.insert.Goals as goal

pub returns : goal.returns
returns c =
    gap_turned c.args.a.now _ _ c.args.at c.args.end c.args.v (search rules) (search rules) refl
    c.rotate_right.ensures.after
