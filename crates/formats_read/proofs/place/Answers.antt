-- `place` meets its contract.
use Rattle.formats_read.proofs.Laws
use Rattle.formats_read.proofs.place.Goals as goal

pub returns : goal.returns
returns c = λ i v q h. Laws.place_at h _ i c.locate.ensures c.unwrap_or.ensures
