-- `minus` meets its contract.
use Rattle.journey_card.specs.Laws.Head.{minus_fits, minus_is, minus_no, minus_none}
use Rattle.journey_card.proofs.minus.Goals as goal

pub overflow_sub-result : goal.overflow_sub-result
overflow_sub-result c =
    minus_fits c.ranges.a c.ranges.d c.small.ensures c.small-then-small.ensures c.if-small.true c.if-small-2.true

pub returns-then-small-2 : goal.returns-then-small-2
returns-then-small-2 c =
    minus_is c.ranges.a c.ranges.d c.small.ensures c.small-then-small.ensures c.if-small.true c.if-small-2.true

pub returns-else-small-2 : goal.returns-else-small-2
returns-else-small-2 c = minus_no c.ranges.a c.ranges.d c.small.ensures c.small-then-small.ensures c.if-small-2.false

pub returns-else-small : goal.returns-else-small
returns-else-small c = minus_none _ c.ranges.a c.small.ensures c.if-small.false
