-- `decode_slots::enter` meets its contract.
use mathlib.Core.Path.{ap, ◌∙◌}
use native.Mathlib.Omega.{arith}
use lib.ListN.{length, length-set}
use Rattle.decode_slots.proofs.enter.Goals as goal

pub mark-requires : goal.mark-requires
mark-requires c = simp length-set (omega arith)

pub shape_of-marks : goal.shape_of-marks
shape_of-marks c = ap length c.mark.ensures ∙ simp length-set
