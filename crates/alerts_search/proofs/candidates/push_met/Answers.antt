-- `alerts_search::candidates::push_met` meets its contract.
use Rattle.alerts_search.specs.Laws.Candidates.{push_none, push_three}
use Rattle.alerts_search.proofs.candidates.push_met.Goals as goal

pub returns-then-i-ge256 : goal.returns-then-i-ge256
returns-then-i-ge256 c = search (push_none)

pub returns : goal.returns
returns c = search (push_three)
