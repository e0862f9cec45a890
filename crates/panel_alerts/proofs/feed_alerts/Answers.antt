-- `panel_alerts::feed_alerts` meets its contract.
use borrow.Author.Rules.{rules}
use mathlib.Core.Path.{refl}
use Rattle.panel_output.specs.Laws.Ends.{finished}
use Rattle.panel_alerts.proofs.feed_alerts.Goals as goal

pub returns : goal.returns
returns c = finished c.sheet_ending-e.ensures c.finish.ensures (search rules) refl
