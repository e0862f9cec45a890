-- `route_fits` meets its contract.
use Rattle.overlay_ids.specs.Laws.Fits.{route_stop, route_absent, route_ends}
use Rattle.overlay_ids.proofs.route_fits.Goals as goal

pub returns-then-stop_fits : goal.returns-then-stop_fits
returns-then-stop_fits c = search route_stop

pub returns-then-route-eq0 : goal.returns-then-route-eq0
returns-then-route-eq0 c = search route_absent

pub returns : goal.returns
returns c = search route_ends
