-- `panel_sheets::alert_sheet` meets its contract.
use borrow.Author.Rules.{rules}
use mathlib.Core.Path.{refl}
use Rattle.panel_output.specs.Laws.Ends.{finished}
use Rattle.panel_sheets.proofs.alert_sheet.Goals as goal

pub returns : goal.returns
returns c = finished c.alert_ending-e.ensures c.finish.ensures (search rules) refl
