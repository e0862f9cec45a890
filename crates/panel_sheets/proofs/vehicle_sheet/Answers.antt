-- `panel_sheets::vehicle_sheet` meets its contract.
use mir.Facts.{to_z-of_z}
use borrow.Author.Rules.{rules}
use mathlib.Core.Path.{refl}
use Rattle.panel_output.specs.Laws.Ends.{finished}
use Rattle.panel_sheets.proofs.vehicle_sheet.Goals as goal

pub returns : goal.returns
returns c =
    finished
    (c.vehicle_ending-e.ensures c.args.clock
    (rw (to_z-of_z c.ranges.clock) at c.read_clock-c.ensures))
    c.finish.ensures (search rules) refl
