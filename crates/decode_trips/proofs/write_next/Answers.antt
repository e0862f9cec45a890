-- `decode_trips::write_next` meets its contract.
use Rattle.decode_trips.specs.Laws.Again.{copied}
use Rattle.decode_trips.proofs.write_next.Goals as goal

pub returns-then-is : goal.returns-then-is
returns-then-is c = search copied
