-- `overlay_records::vehicles` meets its contract.
use Rattle.formats_check.specs.Laws.Elements.{in_place}
use Rattle.formats_check.specs.Laws.Climbing.{climbs_no, climbs_many, climbs_so}
use Rattle.overlay_records.proofs.vehicles.Goals as goal

pub returns-in_err-n : goal.returns-in_err-n
returns-in_err-n c = rw c.from_residual.ensures (search (climbs_no, c.in_err-n.was))

pub returns-then-n-gt1024 : goal.returns-then-n-gt1024
returns-then-n-gt1024 c = search (climbs_many, c.in_ok-n.was)

pub vehicles_from-requires : goal.vehicles_from-requires
vehicles_from-requires c = search (in_place, c.in_ok-n.was)

pub returns : goal.returns
returns c = search (climbs_so, c.in_ok-n.was)
