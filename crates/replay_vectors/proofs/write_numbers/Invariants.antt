-- `replay_vectors::write_numbers` meets its contract: the place stays inside.
use Rattle.std.proofs.Common.{◌≤◌, length}
use Rattle.replay_vectors.proofs.write_numbers.Given as goal

abbrev pub invariant-loop : goal.invariant-loop
invariant-loop g l = l.end ≤ length l.told
