-- `spot` meets its contract: no room for a fifth feed, the entry that it has, a new one.
use Rattle.overlay_frame.specs.Laws.Body.{known_spot, new_spot, no_spot}
use Rattle.overlay_frame.proofs.spot.Goals as goal

pub returns-then-count-ge-MOST_FEEDS : goal.returns-then-count-ge-MOST_FEEDS
returns-then-count-ge-MOST_FEEDS c = search no_spot

pub returns-in-At : goal.returns-in-At
returns-in-At c = search known_spot

pub returns-else-count-ge-MOST_FEEDS : goal.returns-else-count-ge-MOST_FEEDS
returns-else-count-ge-MOST_FEEDS c = search new_spot
