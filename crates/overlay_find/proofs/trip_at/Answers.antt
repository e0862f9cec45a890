-- `overlay_find::trip_at` meets its contract.
use Rattle.overlay_find.specs.Laws.Looks.{key_short, key_other, key_far, key_rest}
use lib.ListN.{length-take}
use native.Mathlib.Omega.{arith}
use Rattle.overlay_find.proofs.trip_at.Goals as goal

pub returns-then-key-n : goal.returns-then-key-n
returns-then-key-n c = search key_short

pub returns-then-key-n-ne58 : goal.returns-then-key-n-ne58
returns-then-key-n-ne58 c = search key_other

pub slice_bounds-same-end : goal.slice_bounds-same-end
slice_bounds-same-end c = simp length-take (omega arith)

pub returns-then-same : goal.returns-then-same
returns-then-same c = search key_rest

pub returns : goal.returns
returns c = search key_far
