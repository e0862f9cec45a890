-- `alerts_ids::products::line_of` meets its contract. The invariant: the rows before `at` have other codes.
use Rattle.alerts_ids.specs.Laws.Products.{Seeking}
use Rattle.alerts_ids.proofs.products.line_of.Given as goal

abbrev pub invariant-loop-left : goal.invariant-loop-left
invariant-loop-left l = Seeking l.code l.table l.n l.at l.left l.initial.out l.out

abbrev pub decreases-loop-left : goal.decreases-loop-left
decreases-loop-left l = l.left
