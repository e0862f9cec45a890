-- `overlay_keyed::trip_entry` meets its contract.
use Rattle.overlay_keyed.specs.Laws.Trips.{trip_key, key_inside, trip_none, trip_other, trip_so}
use Rattle.overlay_keyed.proofs.trip_entry.Goals as goal

pub returns-in_err-a : goal.returns-in_err-a
returns-in_err-a c = rw c.from_residual.ensures (search (trip_key, c.in_err-a.was))

pub returns-in_err-q : goal.returns-in_err-q
returns-in_err-q c = rw c.from_residual-in_err-q.ensures (search (trip_none, c.in_ok-a.was, c.in_err-q.was))

pub key_ok-requires : goal.key_ok-requires
key_ok-requires c = search (key_inside, c.in_ok-a.was)

pub returns-then-key_ok : goal.returns-then-key_ok
returns-then-key_ok c = search (trip_so, c.in_ok-a.was, c.in_ok-q.was)

pub returns : goal.returns
returns c = search (trip_other, c.in_ok-a.was, c.in_ok-q.was)
