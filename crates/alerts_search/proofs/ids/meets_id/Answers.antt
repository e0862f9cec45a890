-- `alerts_search::ids::meets_id` meets its contract.
use Rattle.alerts_search.specs.Laws.Ids.{id_whole, id_no_tail, id_tail}
use Rattle.alerts_search.proofs.ids.meets_id.Goals as goal

pub returns-then-key_in : goal.returns-then-key_in
returns-then-key_in c = search (id_whole)

pub returns-then-k-d : goal.returns-then-k-d
returns-then-k-d c = search (id_no_tail)

pub returns : goal.returns
returns c = search (id_tail)
