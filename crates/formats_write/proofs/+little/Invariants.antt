-- `little` meets its contract.
use Rattle.formats_write.proofs.+little.Given as goal

abbrev pub decreases-little : goal.decreases-little
decreases-little l = l.k
