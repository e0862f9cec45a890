-- `alerts_search::candidates::trips_place` meets its contract.
use Rattle.alerts_search.specs.Laws.Candidates.{past_texts}
use Rattle.alerts_search.proofs.candidates.trips_place.Goals as goal

pub returns : goal.returns
returns c = search (past_texts)
