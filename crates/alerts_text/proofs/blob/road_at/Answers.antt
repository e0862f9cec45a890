-- `alerts_text::blob::road_at` meets its contract.
use mathlib.Core.Path.{sym}
use lib.Seq.{length-take-le}
use native.Mathlib.Omega.{arith}
use Rattle.alerts_text.proofs.blob.road_at.Goals as goal

pub slice_bounds-road_traffic-end : goal.slice_bounds-road_traffic-end
slice_bounds-road_traffic-end c = sym (length-take-le c.args.n c.args.s.now (omega arith))
