-- `overlay_noted::note_parts` meets its contract.
use Rattle.overlay_noted.specs.Laws.Parts.{parts_put}
use Rattle.overlay_noted.proofs.note_parts.Goals as goal

pub returns : goal.returns
returns c = search parts_put
