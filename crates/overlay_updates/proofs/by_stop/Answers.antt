-- `by_stop` meets its contract.
use Rattle.overlay_updates.specs.Laws.Updates.{by_stop}
use Rattle.overlay_updates.proofs.by_stop.Goals as goal

pub returns : goal.returns
returns c = search by_stop
