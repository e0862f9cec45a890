-- `alerts_search::marks::unmark` meets its contract.
use Rattle.alerts_search.specs.Laws.Marks.{zeros_unmarked}
use Rattle.alerts_search.proofs.marks.unmark.Goals as goal

pub returns : goal.returns
returns c = search (zeros_unmarked)
