-- `alerts_views::id_of` meets its contract: the text at the field of the kind. Assumes nothing.
use Rattle.alerts_views.proofs.Ids.{trip_id_read, route_id_read, stop_id_read}
use Rattle.alerts_views.proofs.id_of.Goals as goal

pub returns-then-kind-eq-TRIP : goal.returns-then-kind-eq-TRIP
returns-then-kind-eq-TRIP c = search trip_id_read

pub returns-then-kind-eq-ROUTE_ID : goal.returns-then-kind-eq-ROUTE_ID
returns-then-kind-eq-ROUTE_ID c = search route_id_read

pub returns : goal.returns
returns c = search stop_id_read
