-- `compare_text` meets its contract.
use Rattle.overlay_feeds.specs.Laws.Place.{compares}
use Rattle.overlay_feeds.proofs.compare_text.Goals as goal

pub returns : goal.returns
returns c = search compares
