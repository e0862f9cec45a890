-- `decode_slots::mark` meets its contract.
use native.Mathlib.Omega.{arith}
use lib.ListN.{length-set}
use Rattle.decode_slots.proofs.mark.Goals as goal

pub bounds-marks-slot-2 : goal.bounds-marks-slot-2
bounds-marks-slot-2 c = simp length-set (omega arith)
