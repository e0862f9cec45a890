-- `endpoint` meets its contract.
use Rattle.journey_stops.specs.Laws.Endpoints.{endpoint_in}
use Rattle.journey_stops.proofs.endpoint.Goals as goal

pub returns : goal.returns
returns c =
    endpoint_in (record { sfits = c.scheduled.type_inv }) c.text-t.ensures c.number-n.ensures c.known-k.ensures
    c.scheduled.ensures c.apply_time.ensures
