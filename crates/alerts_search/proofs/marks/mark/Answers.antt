-- `alerts_search::marks::mark` meets its contract.
use Rattle.alerts_search.specs.Laws.Marks.{set_mark}
use native.Mathlib.Omega.{arith}
use Rattle.alerts_search.proofs.marks.mark.Goals as goal

pub returns : goal.returns
returns c = set_mark _ _ (omega arith)
