-- `alerts_text::blob::mark_folded` meets its contract.
use mathlib.Core.Path.{sym}
use lib.Seq.{length-take-le}
use native.Mathlib.Omega.{arith}
use Rattle.alerts_text.proofs.blob.mark_folded.Goals as goal

pub slice_bounds-mark_named-end : goal.slice_bounds-mark_named-end
slice_bounds-mark_named-end c =
    let a = c.args in
    sym (length-take-le a.n a.s.now (omega arith))
