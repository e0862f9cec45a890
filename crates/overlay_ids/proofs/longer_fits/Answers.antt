-- `longer_fits` meets its contract.
use lib.ListN.{length-take}
use native.Mathlib.Omega.{arith}
use Rattle.overlay_ids.specs.Laws.Fits.{stop_other, stop_whole, stop_part}
use Rattle.overlay_ids.proofs.longer_fits.Goals as goal

pub slice_bounds-same-end : goal.slice_bounds-same-end
slice_bounds-same-end c = simp length-take (omega arith)

pub returns-then-same : goal.returns-then-same
returns-then-same c = search stop_whole

pub slice_bounds-ends_colon-end : goal.slice_bounds-ends_colon-end
slice_bounds-ends_colon-end c = simp length-take (omega arith)

pub returns-then-ends_colon : goal.returns-then-ends_colon
returns-then-ends_colon c = search stop_part

pub returns : goal.returns
returns c = search stop_other
