-- `alerts_lines::mark_named` meets its contract.
use borrow.Author.Rules.{rules}
use Rattle.alerts_lines.specs.Laws.Rows.{named_marked, begin_letters}
use Rattle.alerts_lines.proofs.mark_named.Goals as goal

pub mark_class-requires : goal.mark_class-requires
mark_class-requires c = search (rules, begin_letters)

pub returns : goal.returns
returns c = search (named_marked)
