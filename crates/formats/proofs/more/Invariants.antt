-- `formats::more`: what is found from the next group on is the number. Assumes nothing.
use Rattle.formats.specs.Promises.Number.{Rest}
use Rattle.formats.proofs.more.Given as goal

abbrev pub invariant-loop-p : goal.invariant-loop-p
invariant-loop-p l = Rest l.s l.at l.low l.p l.n l.unit l.left
