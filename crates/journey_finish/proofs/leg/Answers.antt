-- `leg` meets its contract.
use Rattle.journey_finish.specs.Laws.Legs.{leg_out, leg_transit, leg_walk}
use Rattle.journey_finish.proofs.leg.Goals as goal

pub returns-then-card-at : goal.returns-then-card-at
returns-then-card-at c = leg_out c.if-card-at.true

pub returns-then-tag-eq1 : goal.returns-then-tag-eq1
returns-then-tag-eq1 c = leg_transit c.tag.ensures c.if-tag-eq1.true c.byte-q.ensures c.finish.ensures

pub returns : goal.returns
returns c = leg_walk c.tag.ensures c.if-tag-eq1.false c.stretch.ensures
