-- `formats_check::printables` meets its contract.
use Rattle.formats_check.specs.Laws.Walks.{all_many, all_so}
use Rattle.formats_check.proofs.printables.Goals as goal

pub returns-then-most-n : goal.returns-then-most-n
returns-then-most-n c = search (all_many, c.in_ok-n.was)

pub returns : goal.returns
returns c = search (all_so, c.in_ok-n.was)
