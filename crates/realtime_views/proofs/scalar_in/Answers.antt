-- `realtime_views::scalar_in` meets its contract, in the bytes up to the message's end. Assumes nothing.
use Rattle.realtime_views.proofs.Typing.{scalar_read_in}
use Rattle.realtime_views.proofs.scalar_in.Goals as goal

pub returns : goal.returns
returns c =
    let a = c.args in
    scalar_read_in a.s.now a.start a.len c.requires c.part.ensures
    c.over_scalar_in.ensures
