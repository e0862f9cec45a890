-- `wire_probes::probes_xor_numbers` meets its contract. Assumes nothing.
use Prim.Native.Nat.{◌-◌}
use Rattle.wire_probes.proofs.Numbers.{Passed}
use lib.ListN.{length}
use Rattle.wire_probes.proofs.probes_xor_numbers.Given as goal

abbrev pub invariant-loop-at : goal.invariant-loop-at
invariant-loop-at l = Passed l.s l.acc l.at

abbrev pub decreases-loop-at : goal.decreases-loop-at
decreases-loop-at l = length l.s - l.at
