-- `groups` meets its contract.
use Rattle.formats_write.proofs.+groups.Given as goal

abbrev pub decreases-groups : goal.decreases-groups
decreases-groups l = l.k
