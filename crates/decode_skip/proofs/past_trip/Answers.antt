-- `past_trip` meets its contract.
use Rattle.formats_skip.specs.Laws.Leads.{lead_end}
use Rattle.decode_skip.proofs.past_trip.Goals as goal

pub returns : goal.returns
returns c = search (lead_end 6)
