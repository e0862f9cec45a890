-- `realtime_views::stop_of` meets its contract, in the bytes up to the update's end. Assumes nothing.
use Rattle.realtime_views.proofs.Typing.{stop_read}
use Rattle.realtime_views.proofs.stop_of.Goals as goal

pub returns : goal.returns
returns c =
    let a = c.args in
    stop_read a.s.now a.start a.len c.requires c.part.ensures
    c.over_stop.ensures
