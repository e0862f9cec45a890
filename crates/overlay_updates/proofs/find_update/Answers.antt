-- `find_update` meets its contract.
use Rattle.overlay_updates.specs.Laws.Updates.{no_sequence, sequence_found, sequence_missing}
use Rattle.overlay_updates.proofs.find_update.Goals as goal

pub returns-in_default : goal.returns-in_default
returns-in_default c = search no_sequence

pub returns-in-Some-by_sequence : goal.returns-in-Some-by_sequence
returns-in-Some-by_sequence c = search sequence_found

pub returns : goal.returns
returns c = search sequence_missing
