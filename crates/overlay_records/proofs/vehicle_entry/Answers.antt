-- `overlay_records::vehicle_entry` meets its contract.
use Rattle.overlay_records.specs.Laws.Records.{vehicle_key, vehicle_none, vehicle_so}
use Rattle.overlay_records.proofs.vehicle_entry.Goals as goal

pub returns-in_err-a : goal.returns-in_err-a
returns-in_err-a c = rw c.from_residual.ensures (search (vehicle_key, c.in_err-a.was))

pub returns-in_err-q : goal.returns-in_err-q
returns-in_err-q c = rw c.from_residual-in_err-q.ensures (search (vehicle_none, c.in_ok-a.was, c.in_err-q.was))

pub returns : goal.returns
returns c = search (vehicle_so, c.in_ok-a.was, c.in_ok-q.was)
