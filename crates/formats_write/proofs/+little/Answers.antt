-- `little` meets its contract.
use Rattle.formats_write.proofs.Laws
use Rattle.formats_write.proofs.+little.Goals as goal

pub returns : goal.returns
returns t c = search (Laws.little_more)
