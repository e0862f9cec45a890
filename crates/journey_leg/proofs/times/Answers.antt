-- `times` meets its contract.
use Rattle.journey_leg.specs.Laws.Leg.{times_told, times_kept}
use Rattle.journey_leg.proofs.times.Goals as goal

pub returns-then-live : goal.returns-then-live
returns-then-live c = times_told _ _ c.if-live.true c.told.ensures

pub returns : goal.returns
returns c = times_kept _ _ c.if-live.false c.stretch.ensures
