-- `decode_trips::write_entry` meets its contract.
use Rattle.decode_write.specs.Laws.Records.{slot_fits, slot_calm}
use Rattle.decode_trips.specs.Laws.Entries.{key_ready, entry_put}
use mathlib.Core.Path.{◌∙◌}
use Rattle.decode_trips.specs.Laws.Again.{place_or_zero}
use Rattle.decode_trips.proofs.write_entry.Goals as goal

pub write_next-r-requires-clause-message_len_bound : goal.write_next-r-requires-clause-message_len_bound
write_next-r-requires-clause-message_len_bound c = c.requires.message_len_bound

pub write_next-r-requires-clause-fit : goal.write_next-r-requires-clause-fit
write_next-r-requires-clause-fit c =
    let G = c.requires.good_slot in
    let f = c.word-from.ensures in
    let e = c.word-to.ensures in
    (slot_fits G f e, slot_calm G f e)

pub write_next-r-requires-clause-ready : goal.write_next-r-requires-clause-ready
write_next-r-requires-clause-ready c =
    let G = c.requires.good_slot in
    key_ready G c.requires.ready c.word-len.ensures
    c.text-q.ensures

pub returns : goal.returns
returns c =
    entry_put c.requires.good_slot c.requires.ready c.word-len.ensures c.text-q.ensures
    c.word-from.ensures c.word-to.ensures c.write_next-r.ensures
    (c.unwrap_or-start.ensures ∙ place_or_zero c.text-q.result)
    (c.unwrap_or-end.ensures ∙ place_or_zero c.write_next-r.result)
