-- `number` meets its contract.
use Rattle.formats_read.proofs.Laws
use Rattle.formats_read.proofs.number.Goals as goal

pub returns : goal.returns
returns c = Laws.number_or c.number.ensures c.unwrap_or-value.ensures
