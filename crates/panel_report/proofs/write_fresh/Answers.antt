-- `panel_report::write_fresh` meets its contract.
use borrow.Author.Rules.{rules}
use Rattle.formats_write.specs.Laws.Adds.{then}
use Rattle.panel_report.proofs.write_fresh.Goals as goal

pub returns : goal.returns
returns c = search then
