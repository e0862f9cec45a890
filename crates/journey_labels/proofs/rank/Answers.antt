-- `journey_labels::rank`: the rank lies between `lo` and `hi`.
use Rattle.journey_labels.specs.Laws.Labels.{between_all, between_up, between_down, between_one}
use Rattle.journey_labels.specs.Laws.Labels.{mid_inside, mid_from, mid_to}
use Rattle.journey_labels.proofs.rank.Goals as goal

pub loop-lo-init : goal.loop-lo-init
loop-lo-init c = search between_all

pub order_at-requires : goal.order_at-requires
order_at-requires c = search (mid_inside, mid_from, mid_to)

pub loop-lo-preserved-then-is_more : goal.loop-lo-preserved-then-is_more
loop-lo-preserved-then-is_more c = search between_up

pub loop-lo-preserved : goal.loop-lo-preserved
loop-lo-preserved c = search between_down

pub returns : goal.returns
returns c = search between_one
