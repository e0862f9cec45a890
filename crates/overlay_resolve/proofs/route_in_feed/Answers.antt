-- `route_in_feed` meets its contract.
use Rattle.overlay_resolve.specs.Laws.Resolve.{record_found, record_missing, feed_missing}
use Rattle.overlay_places.specs.Laws.Ranks.{noted_room, found_low, rank_noted}
use Rattle.overlay_resolve.proofs.route_in_feed.Goals as goal

pub by_descriptor-requires : goal.by_descriptor-requires
by_descriptor-requires c = search (rank_noted, c.in_ok-r.was)

pub entry_place-requires : goal.entry_place-requires
entry_place-requires c = (search noted_room, search (found_low, c.in_ok-r.was))

pub returns-in_err-r : goal.returns-in_err-r
returns-in_err-r c = search (feed_missing, c.from_residual.ensures, c.in_err-r.was)

pub returns-in_err-p : goal.returns-in_err-p
returns-in_err-p c = search (record_missing, c.in_ok-r.was, c.from_residual-in_err-p.ensures, c.in_err-p.was)

pub returns : goal.returns
returns c = search (record_found, c.in_ok-r.was, c.in_ok-p.was)
