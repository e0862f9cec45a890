-- `decode_updates::count_updates`: those so far and those that are left. Assumes nothing.
use Rattle.decode_updates.proofs.Counting.{Counting}
use Rattle.decode_updates.proofs.count_updates.Given as goal

abbrev pub invariant-loop-n : goal.invariant-loop-n
invariant-loop-n l = Counting l.message l.start l.len l.n l.walk
