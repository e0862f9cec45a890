-- `described` meets its contract.
use Rattle.overlay_find.specs.Laws.Tests.{by_direction, other_route, other_date}
use Rattle.overlay_find.proofs.described.Goals as goal

pub returns-then-route_is : goal.returns-then-route_is
returns-then-route_is c = search by_direction

pub returns-then-is_text : goal.returns-then-is_text
returns-then-is_text c = search other_route

pub returns : goal.returns
returns c = search other_date
