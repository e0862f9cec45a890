-- `alerts_lines::mark_trams` meets its contract.
use borrow.Author.Rules.{rules}
use Rattle.alerts_lines.specs.Laws.Rows.{tram_named, tram_spaced, begin_trams}
use Rattle.alerts_lines.proofs.mark_trams.Goals as goal

pub mark_class-requires : goal.mark_class-requires
mark_class-requires c = search (rules, begin_trams)

pub returns-then-any_in : goal.returns-then-any_in
returns-then-any_in c = search (tram_named)

pub mark_class-requires-2 : goal.mark_class-requires-2
mark_class-requires-2 c = search (rules, begin_trams)

pub returns : goal.returns
returns c = search (tram_spaced)
