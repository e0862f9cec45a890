-- `read_front` meets its contract.
use Rattle.overlay_feeds.specs.Laws.Parts.{front_of}
use Rattle.overlay_feeds.proofs.read_front.Goals as goal

pub returns : goal.returns
returns c = search front_of
