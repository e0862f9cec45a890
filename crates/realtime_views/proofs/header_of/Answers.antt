-- `realtime_views::header_of` meets its contract: the header is what is merged at field 1. Assumes nothing.
use Rattle.realtime_views.proofs.Typing.{header_read}
use Rattle.realtime_views.proofs.header_of.Goals as goal

pub returns : goal.returns
returns c = header_read c.nothing.ensures c.over_field.ensures c.header_from.ensures
