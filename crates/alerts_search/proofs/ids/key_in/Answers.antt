-- `alerts_search::ids::key_in` meets its contract.
use Rattle.alerts_search.specs.Laws.Ids.{key_same, key_whole, key_empty, key_past}
use Rattle.alerts_search.proofs.ids.key_in.Goals as goal

pub returns-then-same : goal.returns-then-same
returns-then-same c = search (key_same)

pub returns-then-x-c : goal.returns-then-x-c
returns-then-x-c c = search (key_whole)

pub returns-then-x-t : goal.returns-then-x-t
returns-then-x-t c = search (key_empty)

pub returns : goal.returns
returns c = search (key_past)
