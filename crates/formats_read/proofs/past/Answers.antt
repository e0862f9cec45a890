-- `past` meets its contract.
use Rattle.formats_read.proofs.Laws
use Rattle.formats_read.proofs.past.Goals as goal

pub returns : goal.returns
returns c = λ v q h. search (Laws.past_at)
