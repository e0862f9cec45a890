-- `alerts_text::blob::own_at` meets its contract.
use mathlib.Core.Path.{sym}
use lib.Seq.{length-take-le}
use native.Mathlib.Omega.{arith}
use Rattle.alerts_text.proofs.blob.own_at.Goals as goal

pub slice_bounds-line_of-end : goal.slice_bounds-line_of-end
slice_bounds-line_of-end c = sym (length-take-le c.args.e c.args.s.now (omega arith))
