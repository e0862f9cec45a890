-- `route_is` meets its contract.
use Rattle.overlay_find.specs.Laws.Tests.{route_is}
use Rattle.overlay_find.proofs.route_is.Goals as goal

pub returns : goal.returns
returns c = search route_is
