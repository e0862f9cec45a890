-- `decode_index::begin`: the old trips join, or there are none. Assumes nothing.
use Rattle.decode_slots.specs.Laws.Slots.{sound_none}
use Rattle.decode_index.proofs.Leaves.{begun_none, begun_old}
use Rattle.decode_index.proofs.begin.Goals as goal

pub returns-then-differential : goal.returns-then-differential
returns-then-differential c = begun_old c.join.ensures c.if-differential.true

pub returns : goal.returns
returns c = begun_none (sound_none c.requires.lent) c.if-differential.false c.past_trips.ensures
