-- `by_sequence` meets its contract.
use Rattle.overlay_updates.specs.Laws.Updates.{by_sequence}
use Rattle.overlay_updates.proofs.by_sequence.Goals as goal

pub returns : goal.returns
returns c = search by_sequence
