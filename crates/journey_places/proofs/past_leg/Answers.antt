-- `past_leg` meets its contract.
use Rattle.journey_places.specs.Laws.Places.{leg_out, leg_transit, leg_walk}
use Rattle.journey_places.proofs.past_leg.Goals as goal

pub returns-then-s-at : goal.returns-then-s-at
returns-then-s-at c = search (leg_out)

pub returns-then-tag-eq1 : goal.returns-then-tag-eq1
returns-then-tag-eq1 c = search (leg_transit)

pub returns : goal.returns
returns c = leg_walk c.tag.ensures c.if-tag-eq1.false c.past_text.ensures
