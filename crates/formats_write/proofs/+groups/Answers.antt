-- `groups` meets its contract.
use Rattle.formats_write.proofs.Laws
use Rattle.formats_write.proofs.+groups.Goals as goal

pub returns : goal.returns
returns t c = search (Laws.group_more)
