-- `flag` meets its contract.
use Rattle.journey_leg.specs.Laws.Leg.{flag_set, flag_kept}
use Rattle.journey_leg.proofs.flag.Goals as goal

pub returns-then-cancels : goal.returns-then-cancels
returns-then-cancels c = flag_set c.if-cancels.true c.number.ensures

pub returns : goal.returns
returns c = flag_kept c.if-cancels.false c.stretch.ensures
