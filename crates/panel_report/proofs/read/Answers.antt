-- `panel_report::read` meets its contract.
use borrow.Author.Rules.{rules}
use Rattle.panel_report.specs.Laws.Report.{reads_at, reads_none}
use Rattle.panel_report.proofs.read.Goals as goal

pub returns-in-At : goal.returns-in-At
returns-in-At c = search reads_at

pub returns-in-Missing : goal.returns-in-Missing
returns-in-Missing c = search reads_none
