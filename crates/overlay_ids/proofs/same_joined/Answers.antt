-- `same_joined` meets its contract.
use Rattle.overlay_ids.specs.Laws.Joined.{joined_short, joined_size, joined_other, joined_rest, joined_whole}
use lib.ListN.{length-take}
use native.Mathlib.Omega.{arith}
use Rattle.overlay_ids.proofs.same_joined.Goals as goal

pub returns-then-key-n : goal.returns-then-key-n
returns-then-key-n c = search joined_short

pub returns-then-key-n-2 : goal.returns-then-key-n-2
returns-then-key-n-2 c = search joined_size

pub returns-then-key-n-ne58 : goal.returns-then-key-n-ne58
returns-then-key-n-ne58 c = search joined_other

pub slice_bounds-same-end-then-same : goal.slice_bounds-same-end-then-same
slice_bounds-same-end-then-same c = simp length-take (omega arith)

pub returns-then-same : goal.returns-then-same
returns-then-same c = search joined_whole

pub returns : goal.returns
returns c = search joined_rest
