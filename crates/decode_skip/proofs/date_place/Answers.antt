-- `date_place` meets its contract.
use Rattle.formats_skip.specs.Laws.Leads.{lead_here, lead_small, lead_optional_signed}
use Rattle.decode_skip.proofs.date_place.Goals as goal

pub returns : goal.returns
returns c = search (lead_here, lead_small 0, lead_optional_signed 1)
