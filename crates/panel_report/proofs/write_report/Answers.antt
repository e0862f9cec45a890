-- `panel_report::write_report` meets its contract.
use borrow.Author.Rules.{rules}
use Rattle.panel_report.specs.Laws.Report.{report_written}
use Rattle.panel_report.proofs.write_report.Goals as goal

pub returns : goal.returns
returns c = search report_written
