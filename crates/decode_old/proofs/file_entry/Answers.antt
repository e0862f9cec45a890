-- `decode_old::file_entry`: the key goes in with the place behind it. Assumes nothing.
use Rattle.decode_old.proofs.Joining.{entry_small, key_short, files}
use Rattle.decode_old.proofs.file_entry.Goals as goal

pub old_place-to-requires : goal.old_place-to-requires
old_place-to-requires c = entry_small c.text-key.ensures c.past_trip-next.ensures c.requires.entry

pub file_key-slots-requires-clause-fact : goal.file_key-slots-requires-clause-fact
file_key-slots-requires-clause-fact c = c.requires.fact

pub file_key-slots-requires-clause-len_in_bounds : goal.file_key-slots-requires-clause-len_in_bounds
file_key-slots-requires-clause-len_in_bounds c =
    key_short c.text-key.ensures c.past_trip-next.ensures c.requires.entry

pub returns : goal.returns
returns c =
    files c.text-key.ensures c.past_trip-next.ensures c.old_place-from.ensures
    c.old_place-to.ensures c.file_key-slots.ensures
