-- `panel_report::report` meets its contract.
use borrow.Author.Rules.{rules}
use mathlib.Core.Path.{refl}
use Rattle.panel_output.specs.Laws.Ends.{finished}
use Rattle.panel_report.proofs.report.Goals as goal

pub returns : goal.returns
returns c = finished c.report_ending-e.ensures c.finish.ensures (search rules) refl
