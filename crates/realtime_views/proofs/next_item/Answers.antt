-- `realtime_views::next_item` meets its contract. The invariant: what was left at the start is left here. The measure:
-- the bytes behind both places, outside and inside. Assumes nothing.
use Rattle.realtime_views.specs.Laws.Seeks.{seek_is}
use Rattle.realtime_views.proofs.Walking.{yields, all_done, opens}
use Rattle.realtime_views.proofs.next_item.Goals as goal

pub returns-in-Some : goal.returns-in-Some
returns-in-Some c =
    yields c.loop-start.invariant c.part.ensures
    (seek_is c.seek.ensures c.in-Some.is)

pub returns-in_default-seek : goal.returns-in_default-seek
returns-in_default-seek c =
    all_done c.loop-start.invariant c.part.ensures
    (seek_is c.seek.ensures c.in_default.is)
    (seek_is c.seek-in-loop-start.ensures c.in_default-seek.is)

pub loop-start-preserved : goal.loop-start-preserved
loop-start-preserved c =
    opens c.loop-start.invariant c.part.ensures
    (seek_is c.seek.ensures c.in_default.is)
    (seek_is c.seek-in-loop-start.ensures c.in-Some-seek.is)
