-- `decode_keys::file_key`: the key is written, and goes in. Assumes nothing.
use Rattle.decode_keys.proofs.Filing.{still, filed}
use Rattle.decode_keys.proofs.file_key.Goals as goal

pub settle-requires-clause-sound_index : goal.settle-requires-clause-sound_index
settle-requires-clause-sound_index c =
    still c.requires.fact.sound c.requires.fact.few c.write_key-long.ensures

pub settle-requires-clause-n_le_most_trips : goal.settle-requires-clause-n_le_most_trips
settle-requires-clause-n_le_most_trips c = (c.requires.fact.few, c.write_key-long.ensures.short)

pub returns : goal.returns
returns c = filed c.requires.fact.sound c.requires.fact.few c.write_key-long.ensures c.settle.ensures
