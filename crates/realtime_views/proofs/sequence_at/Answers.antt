-- `realtime_views::sequence_at` meets its contract, in the bytes up to the update's end. Assumes nothing.
use Rattle.realtime_views.proofs.Typing.{sequence_read}
use Rattle.realtime_views.proofs.sequence_at.Goals as goal

pub returns : goal.returns
returns c =
    let a = c.args in
    sequence_read a.s.now a.start a.len c.requires
    c.part-update.ensures c.last_sequence.ensures c.uint32.ensures
