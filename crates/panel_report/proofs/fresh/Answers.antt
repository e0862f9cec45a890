-- `panel_report::fresh` meets its contract.
use borrow.Author.Rules.{rules}
use mathlib.Core.Path.{refl}
use Rattle.panel_output.specs.Laws.Ends.{finished}
use Rattle.panel_report.proofs.fresh.Goals as goal

pub returns : goal.returns
returns c = finished c.fresh_ending-e.ensures c.finish.ensures (search rules) refl
