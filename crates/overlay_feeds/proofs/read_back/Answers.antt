-- `read_back` meets its contract.
use Rattle.overlay_feeds.specs.Laws.Parts.{back_of}
use Rattle.overlay_feeds.proofs.read_back.Goals as goal

pub returns : goal.returns
returns c = search back_of
