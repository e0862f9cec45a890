-- `decode_updates::is_crowded`: no more than 128 are no more at their sequences; of others the updates themselves tell.
-- Assumes nothing.
use Rattle.decode_updates.proofs.Counting.{crowded_counted}
use Rattle.decode_updates.proofs.Crowding.{crowded_listed}
use Rattle.decode_updates.proofs.is_crowded.Goals as goal

pub returns-then-count_updates-le-MOST_UPDATES : goal.returns-then-count_updates-le-MOST_UPDATES
returns-then-count_updates-le-MOST_UPDATES c =
    crowded_counted c.count_updates.ensures c.if-count_updates-le-MOST_UPDATES.true

pub returns : goal.returns
returns c = crowded_listed c.updates_of.ensures
