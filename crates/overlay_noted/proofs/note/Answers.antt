-- `overlay_noted::note` meets its contract.
use Rattle.overlay_noted.specs.Laws.Parts.{put_in, put_past}
use Rattle.overlay_noted.proofs.note.Goals as goal

pub returns-then-i-noted : goal.returns-then-i-noted
returns-then-i-noted c = search put_in

pub returns-else-i-noted : goal.returns-else-i-noted
returns-else-i-noted c = search put_past
