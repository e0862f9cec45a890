-- `formats_check::number_five` meets its contract.
use Rattle.formats_check.specs.Laws.Five.{one_got}
use Rattle.formats_check.proofs.number_five.Goals as goal

pub returns-in-Some : goal.returns-in-Some
returns-in-Some c = one_got {n = c.in-Some.found.0} {q = c.in-Some.found.1} c.five.ensures c.in-Some.is
