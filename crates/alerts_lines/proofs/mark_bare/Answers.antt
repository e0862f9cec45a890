-- `alerts_lines::mark_bare` meets its contract.
use borrow.Author.Rules.{rules}
use Rattle.alerts_lines.specs.Laws.Rows.{bare_marked, begin_numbers}
use Rattle.alerts_lines.proofs.mark_bare.Goals as goal

pub mark_class-requires : goal.mark_class-requires
mark_class-requires c = search (rules, begin_numbers)

pub returns : goal.returns
returns c = search (bare_marked)
