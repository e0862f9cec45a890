-- `past_long` meets its contract.
use Rattle.formats_skip.specs.Laws.Number.{Scanned}
use Rattle.formats_skip.proofs.past_long.Given as goal

abbrev pub invariant-loop-p : goal.invariant-loop-p
invariant-loop-p l = Scanned l.s l.at l.p
