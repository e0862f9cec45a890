-- `alerts_text::blob::ok_at` meets its contract.
use mathlib.Core.Path.{sym}
use lib.Seq.{length-take-le}
use native.Mathlib.Omega.{arith}
use Rattle.alerts_text.proofs.blob.ok_at.Goals as goal

pub slice_bounds-marked_ok-end : goal.slice_bounds-marked_ok-end
slice_bounds-marked_ok-end c =
    let a = c.args in
    sym (length-take-le a.n a.s.now (omega arith))
