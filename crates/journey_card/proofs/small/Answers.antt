-- `small` meets its contract.
use Rattle.journey_card.specs.Laws.Head.{small_below, small_above, small_inside}
use Rattle.journey_card.proofs.small.Goals as goal

pub returns-then-z-ltminus4611686018427387904 : goal.returns-then-z-ltminus4611686018427387904
returns-then-z-ltminus4611686018427387904 c = small_below _ c.ranges.z c.if-z-ltminus4611686018427387904.true

pub returns-then-z-gt4611686018427387903 : goal.returns-then-z-gt4611686018427387903
returns-then-z-gt4611686018427387903 c = small_above _ c.ranges.z c.if-z-gt4611686018427387903.true

pub returns : goal.returns
returns c = small_inside _ c.ranges.z c.if-z-ltminus4611686018427387904.false c.if-z-gt4611686018427387903.false
