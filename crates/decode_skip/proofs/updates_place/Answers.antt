-- `updates_place` meets its contract.
use Rattle.formats_skip.specs.Laws.Leads.{lead_here, lead_small, lead_text, lead_optional_number, lead_optional_signed}
use Rattle.decode_skip.proofs.updates_place.Goals as goal

pub returns : goal.returns
returns c =
    search
    (lead_here, lead_text 0, lead_optional_number 1, lead_text 2, lead_text 3, lead_small 4, lead_optional_signed 5)
    depth 9
