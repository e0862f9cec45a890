-- `past_vehicle_entry` meets its contract.
use Rattle.formats_skip.specs.Laws.Passes.{text_then}
use Rattle.overlay_skip.proofs.past_vehicle_entry.Goals as goal

pub returns : goal.returns
returns c = search text_then
