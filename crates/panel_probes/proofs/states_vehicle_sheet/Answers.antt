-- `panel_probes::states_vehicle_sheet` meets its contract.
use borrow.Author.Rules.{rules}
use mir.Facts.{to_z-of_z}
use Rattle.panel_probes.specs.Laws.Lengths.{given_at}
use Rattle.panel_probes.proofs.states_vehicle_sheet.Goals as goal

pub returns : goal.returns
returns c =
    given_at c.length_of.ensures
    (rw (to_z-of_z c.ranges.clock) at c.vehicle_sheet.ensures)
