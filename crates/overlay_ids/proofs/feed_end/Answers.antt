-- `feed_end` meets its contract.
use Rattle.overlay_ids.specs.Laws.Feed.{feed_start, feed_next, feed_found, feed_whole}
use Rattle.overlay_ids.proofs.feed_end.Goals as goal

pub loop-i-init : goal.loop-i-init
loop-i-init c = feed_start

pub returns-then-id-i-eq58 : goal.returns-then-id-i-eq58
returns-then-id-i-eq58 c = search feed_found

pub loop-i-preserved : goal.loop-i-preserved
loop-i-preserved c = search feed_next

pub returns : goal.returns
returns c = search feed_whole
