-- `alerts_search::candidates::met_by` meets its contract.
use Rattle.alerts_search.specs.Laws.Candidates.{met}
use Rattle.alerts_search.proofs.candidates.met_by.Goals as goal

pub returns : goal.returns
returns c = search (met)
