-- `direction_is` meets its contract.
use Rattle.overlay_find.specs.Laws.Tests.{any_direction, same_direction}
use Rattle.overlay_find.proofs.direction_is.Goals as goal

pub returns-in-None : goal.returns-in-None
returns-in-None c = search any_direction

pub returns-in-Some : goal.returns-in-Some
returns-in-Some c =
    same_direction c.optional_number.result c.in-Some.is c.optional_number.ensures c.eq.ensures
