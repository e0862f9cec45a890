-- `stop_told` meets its contract.
use Rattle.overlay_updates.specs.Laws.Updates.{stop_read}
use Rattle.overlay_updates.proofs.stop_told.Goals as goal

pub returns : goal.returns
returns c = search stop_read
