-- `decode_write::add_number` meets its contract. Assumes nothing.
use Rattle.decode_write.specs.Laws.Groups.{first_group}
use Rattle.decode_write.proofs.add_number.Goals as goal

pub returns-then-n-lt128 : goal.returns-then-n-lt128
returns-then-n-lt128 c = search first_group
