-- `decode_write::write_record` meets its contract. Assumes nothing.
use Rattle.decode_write.specs.Laws.Records.{texts_lie, few_updates, updates_readable, record_adds}
use Rattle.decode_write.proofs.write_record.Goals as goal

pub put_head-w1-requires : goal.put_head-w1-requires
put_head-w1-requires c = texts_lie c.trip_of-t.ensures

pub put_updates-requires-clause-n_le_most_updates : goal.put_updates-requires-clause-n_le_most_updates
put_updates-requires-clause-n_le_most_updates c =
    let R = c.requires.readable.0 in
    let calm = c.requires.readable.1 in
    let L = c.updates_of-n.ensures in
    (few_updates R L calm, L.lined.long)

pub put_updates-requires-clause-all : goal.put_updates-requires-clause-all
put_updates-requires-clause-all c =
    let R = c.requires.readable.0 in
    let calm = c.requires.readable.1 in
    let L = c.updates_of-n.ensures in
    updates_readable R L calm

pub returns : goal.returns
returns c =
    record_adds c.requires.readable.0 c.updates_of-n.ensures c.requires.readable.1
    c.trip_of-t.ensures
    c.put_head-w1.ensures c.number-w2.ensures c.put_updates.ensures
