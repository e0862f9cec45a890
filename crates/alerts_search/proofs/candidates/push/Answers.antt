-- `alerts_search::candidates::push` meets its contract.
use Rattle.alerts_search.specs.Laws.Candidates.{push_miss, push_marked, push_full, push_new}
use Rattle.alerts_search.proofs.candidates.push.Goals as goal

pub returns-then-not-hit : goal.returns-then-not-hit
returns-then-not-hit c = search (push_miss)

pub returns-then-is_marked : goal.returns-then-is_marked
returns-then-is_marked c = search (push_marked)

pub returns-then-candidates-n : goal.returns-then-candidates-n
returns-then-candidates-n c = search (push_full)

pub returns : goal.returns
returns c = search (push_new)
