-- `decode_write::add_groups` meets its contract. The measure: how many groups may follow. Assumes nothing.
use borrow.Author.Rules.{rules}
use Rattle.formats_write.proofs.Laws as laws
use Rattle.decode_write.specs.Laws.Groups.{last_group, more_groups, room_left, same_size}
use Rattle.decode_write.proofs.+add_groups.Goals as goal

pub returns-then-n-lt128 : goal.returns-then-n-lt128
returns-then-n-lt128 t c = search (last_group, rules)

pub overflow_sub-k : goal.overflow_sub-k
overflow_sub-k t c = search (laws.another)

pub add_groups-requires : goal.add_groups-requires
add_groups-requires t c = (search (laws.fewer), (search (laws.another_fits), search (room_left)))

pub shape_of-out : goal.shape_of-out
shape_of-out t c = search (same_size)

pub returns : goal.returns
returns t c = search (more_groups, rules)
