-- `decode_write::add_groups` meets its contract. The measure: how many groups may follow. Assumes nothing.
use Rattle.decode_write.proofs.+add_groups.Given as goal

abbrev pub decreases-add_groups : goal.decreases-add_groups
decreases-add_groups l = l.k
