-- `mipsuqal_vehicle_sheet` meets its contract.
use borrow.Author.Rules.{rules}
use mir.Facts.{to_z-of_z}
use Rattle.panel_calls.proofs.mipsuqal_vehicle_sheet.Goals as goal

pub returns : goal.returns
returns c = rw (to_z-of_z c.ranges.clock) at c.vehicle_sheet.ensures
