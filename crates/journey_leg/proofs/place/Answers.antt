-- `place` meets its contract.
use Rattle.journey_leg.specs.Laws.Leg.{place_kept, place_told}
use Rattle.journey_leg.proofs.place.Goals as goal

pub returns-in-None : goal.returns-in-None
returns-in-None c = place_kept c.in-None.is c.stretch.ensures

pub returns-in-Some : goal.returns-in-Some
returns-in-Some c = place_told c.in-Some.is c.write.ensures
