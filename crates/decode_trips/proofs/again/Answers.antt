-- `decode_trips::again` meets its contract.
use Rattle.decode_trips.specs.Laws.Again.{again_full}
use Rattle.decode_trips.specs.Laws.Again.{again_done}
use lib.ListN.{length-take}
use native.Mathlib.Omega.{arith}
use Rattle.decode_trips.proofs.again.Goals as goal

pub returns-in_err-at : goal.returns-in_err-at
returns-in_err-at c =
    let z = again_full {l = c.args.out.now} {w = c.args.w} {a = c.args.from} {e = c.args.to} c.in_err-at.was in
    rw c.from_residual.ensures z

pub slice_bounds-copy-end-3 : goal.slice_bounds-copy-end-3
slice_bounds-copy-end-3 c = simp length-take (omega arith)

pub copy-requires-2 : goal.copy-requires-2
copy-requires-2 c = simp length-take (omega arith)

pub returns : goal.returns
returns c = search (again_done, c.in_ok-at.was)
