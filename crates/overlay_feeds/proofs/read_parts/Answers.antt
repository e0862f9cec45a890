-- `read_parts` meets its contract.
use Rattle.overlay_feeds.specs.Laws.Parts.{parts_of}
use Rattle.overlay_feeds.proofs.read_parts.Goals as goal

pub returns : goal.returns
returns c = search parts_of
