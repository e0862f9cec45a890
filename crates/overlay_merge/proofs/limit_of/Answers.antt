-- `limit_of` meets its contract.
use Rattle.overlay_merge.specs.Laws.Limit.{limit_fits, limit_is}
use Rattle.overlay_merge.proofs.limit_of.Goals as goal

pub overflow_sub-clock : goal.overflow_sub-clock
overflow_sub-clock c = limit_fits c.args.clock c.ranges.clock c.requires

pub returns : goal.returns
returns c =
    limit_is c.args.clock c.ranges.clock c.requires c.to_zigzag.result
    c.to_zigzag.ensures
