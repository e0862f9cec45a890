-- `alerts_lines::mark_numbers` meets its contract.
use borrow.Author.Rules.{rules}
use Rattle.alerts_lines.specs.Laws.Rows.{number_heads, number_all, begin_numbers}
use Rattle.alerts_lines.proofs.mark_numbers.Goals as goal

pub mark_class-requires : goal.mark_class-requires
mark_class-requires c = search (rules, begin_numbers)

pub returns-then-not-any_in : goal.returns-then-not-any_in
returns-then-not-any_in c = search (number_heads)

pub returns : goal.returns
returns c = search (number_all)
