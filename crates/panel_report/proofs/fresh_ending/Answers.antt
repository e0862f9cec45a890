-- `panel_report::fresh_ending` meets its contract.
use borrow.Author.Rules.{rules}
use Rattle.panel_report.specs.Laws.Report.{fresh_unsized, fresh_written}
use Rattle.panel_report.proofs.fresh_ending.Goals as goal

pub returns-then-new-n : goal.returns-then-new-n
returns-then-new-n c = search fresh_written

pub returns : goal.returns
returns c = fresh_unsized c.args.new.now c.if-new-n.false
