-- `finish_by` meets its contract.
use Rattle.journey_finish.specs.Laws.Finish.{finished_by}
use Rattle.journey_finish.proofs.finish_by.Goals as goal

pub returns : goal.returns
returns c = finished_by c.endpoints-r.ensures c.vehicle-v.ensures c.transit.ensures
