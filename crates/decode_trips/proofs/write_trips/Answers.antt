-- `decode_trips::write_trips` meets its contract. Assumes nothing.
use native.Mathlib.Omega.{arith}
use Rattle.decode_write.specs.Laws.Slots.{good_slots, trips_adds}
use Rattle.decode_trips.proofs.write_trips.Goals as goal

pub put_entries-requires-clause-message_len_bound : goal.put_entries-requires-clause-message_len_bound
put_entries-requires-clause-message_len_bound c = c.requires.message_len_bound

pub put_entries-requires-clause-n_in_bounds : goal.put_entries-requires-clause-n_in_bounds
put_entries-requires-clause-n_in_bounds c =
    omega (arith, c.requires.writable.sound.ordered, c.requires.writable.sound.counted)

pub put_entries-requires-clause-all : goal.put_entries-requires-clause-all
put_entries-requires-clause-all c =
    good_slots c.args.message.now c.args.old.now c.args.keys.now
    c.args.marks.now
    c.requires.writable

pub returns : goal.returns
returns c =
    trips_adds c.args.message.now c.args.old.now c.args.keys.now
    c.args.marks.now
    c.requires.writable.sound c.number-q.ensures c.put_entries.ensures
