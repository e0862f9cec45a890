-- `get_trip` meets its contract.
use Rattle.overlay_find.specs.Laws.Looks.{whole_key, short_key, no_key}
use Rattle.overlay_find.proofs.get_trip.Goals as goal

pub returns-in-Some : goal.returns-in-Some
returns-in-Some c = search whole_key

pub returns-in_err-end : goal.returns-in_err-end
returns-in_err-end c = rw c.from_residual.ensures (search (no_key, c.in_err-end.was))

pub returns : goal.returns
returns c = search (short_key, c.in_ok-end.was)
