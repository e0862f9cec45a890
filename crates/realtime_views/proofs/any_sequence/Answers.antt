-- `realtime_views::any_sequence` meets its contract: a stop_time_update's sequence is listed as a number. Assumes
-- nothing.
use Rattle.realtime.specs.Schema.{stop_time_update}
use Rattle.realtime_views.proofs.Typing.{sequence_listed}
use Rattle.realtime_views.proofs.any_sequence.Goals as goal

pub returns : goal.returns
returns c = c.last_number.ensures stop_time_update sequence_listed
