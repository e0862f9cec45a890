-- `overlay_open::feed_entry` meets its contract.
use Rattle.formats_check.specs.Laws.Climbing.{span_forward, span_within}
use Rattle.overlay_open.specs.Laws.Feed.{feed_id, feed_none, feed_so}
use Rattle.overlay_noted.specs.Laws.Passes.{unless_no}
use Rattle.overlay_open.specs.Laws.Records.{entry_put}
use Rattle.overlay_open.proofs.feed_entry.Goals as goal

pub returns-in_err-a-clause-entered : goal.returns-in_err-a-clause-entered
returns-in_err-a-clause-entered c = rw c.from_residual.ensures (search (feed_id, c.in_err-a.was))

pub returns-in_err-a-clause-unless : goal.returns-in_err-a-clause-unless
returns-in_err-a-clause-unless c = rw c.from_residual.ensures unless_no

pub slice_bounds-feed-count : goal.slice_bounds-feed-count
slice_bounds-feed-count c = search (span_forward, c.in_ok-a.was)

pub slice_bounds-feed-start : goal.slice_bounds-feed-start
slice_bounds-feed-start c = search (span_forward, c.in_ok-a.was)

pub slice_bounds-feed-end : goal.slice_bounds-feed-end
slice_bounds-feed-end c = search (span_forward, span_within, c.in_ok-a.was)

pub returns-in_err-q-clause-entered : goal.returns-in_err-q-clause-entered
returns-in_err-q-clause-entered c =
    rw c.from_residual-in_err-q.ensures (search (feed_none, c.in_ok-a.was, c.in_err-q.was))

pub returns-in_err-q-clause-unless : goal.returns-in_err-q-clause-unless
returns-in_err-q-clause-unless c = rw c.from_residual-in_err-q.ensures unless_no

pub returns-clause-entered : goal.returns-clause-entered
returns-clause-entered c = search (feed_so, c.in_ok-a.was, c.in_ok-q.was)

pub returns-clause-unless : goal.returns-clause-unless
returns-clause-unless c = search (entry_put, c.in_ok-a.was, c.in_ok-q.was)
