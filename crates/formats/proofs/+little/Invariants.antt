-- `formats::little` meets its contract.
use Rattle.formats.proofs.+little.Given as goal

abbrev pub decreases-little : goal.decreases-little
decreases-little l = l.k
