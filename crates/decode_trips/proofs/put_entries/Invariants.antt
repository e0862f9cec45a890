-- `decode_trips::put_entries`: the entries of the slots behind it are written, and the last record stands there.
use Rattle.formats.specs.Readers.{many_w}
use Rattle.formats.specs.Format.{write}
use Rattle.formats_write.specs.Promises.Adds.{Adds}
use Rattle.decode.specs.Trip.{trip_entry}
use Rattle.decode_slots.specs.Index.{index}
use Rattle.decode_slots.specs.Places.{held}
use Rattle.decode_trips.specs.Promises.Again.{Ready}
use Rattle.decode_trips.proofs.put_entries.Given as goal

abbrev pub invariant-loop-slot : goal.invariant-loop-slot
invariant-loop-slot l =
    Adds l.initial.out l.initial.q l.out l.q
    (many_w (write trip_entry) (held l.message l.old (index l.keys l.marks l.order l.slot-index)))
    × Ready l.message l.old l.out l.q l.last
