-- `alerts_text::blob::write_next` meets its contract.
use mathlib.Core.Path.{◌∙◌}
use lib.ListN.{length-set}
use native.Mathlib.Omega.{arith}
use Rattle.alerts_text.proofs.Folding.{next_written}
use Rattle.alerts_text.proofs.blob.write_next.Goals as goal

pub write-requires : goal.write-requires
write-requires c =
    let a = c.args in
    omega (arith, length-set a.out.now a.at 32, c.requires)

pub shape_of-out : goal.shape_of-out
shape_of-out c =
    let a = c.args in
    c.write.ensures.kept ∙ length-set a.out.now a.at 32

pub returns : goal.returns
returns c = search (next_written)
