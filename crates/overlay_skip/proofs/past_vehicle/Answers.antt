-- `past_vehicle` meets its contract.
use Rattle.formats_skip.specs.Laws.Passes.{pair, any_signed, optional_text_then}
use Rattle.overlay_skip.proofs.past_vehicle.Goals as goal

pub returns : goal.returns
returns c = search (pair, any_signed, optional_text_then)
