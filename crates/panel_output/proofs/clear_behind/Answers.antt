-- `panel_output::clear_behind` meets its contract.
use borrow.Author.Rules.{rules}
use Rattle.panel_output.specs.Laws.Ending.{cleared, whole}
use Rattle.panel_output.proofs.clear_behind.Goals as goal

pub returns-then-p-out : goal.returns-then-p-out
returns-then-p-out c = cleared _ _ _ (search rules) c.clear.ensures

pub returns-else-p-out : goal.returns-else-p-out
returns-else-p-out c = whole (search rules)
