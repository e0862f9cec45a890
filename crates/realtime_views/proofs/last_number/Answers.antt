-- `realtime_views::last_number` meets its contract: the number of the last scalar. Assumes nothing.
use Rattle.realtime_views.proofs.Typing.{last_number}
use Rattle.realtime_views.proofs.last_number.Goals as goal

pub returns : goal.returns
returns c = last_number c.over_scalar.ensures c.number.ensures c.unwrap_or.ensures
