-- `overlay_trip::updates` meets its contract.
use Rattle.formats_check.specs.Laws.Elements.{in_place}
use Rattle.formats_check.specs.Laws.Rising.{ascend_no, ascend_many, ascend_so}
use Rattle.overlay_trip.proofs.updates.Goals as goal

pub returns-in_err-n : goal.returns-in_err-n
returns-in_err-n c = rw c.from_residual.ensures (search (ascend_no, c.in_err-n.was))

pub returns-then-n-gt128 : goal.returns-then-n-gt128
returns-then-n-gt128 c = search (ascend_many, c.in_ok-n.was)

pub updates_from-requires : goal.updates_from-requires
updates_from-requires c = search (in_place, c.in_ok-n.was)

pub returns : goal.returns
returns c = search (ascend_so, c.in_ok-n.was)
