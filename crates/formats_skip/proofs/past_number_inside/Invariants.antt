-- `past_number_inside` meets its contract.
use Prim.Native.Nat.{◌+◌}
use Rattle.formats_skip.specs.Laws.Number.{Scanned}
use Rattle.formats_skip.proofs.past_number_inside.Given as goal

abbrev pub invariant-loop-k : goal.invariant-loop-k
invariant-loop-k l = Scanned l.s l.at (l.at + l.k)
