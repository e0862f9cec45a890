-- `last_at` meets its contract.
use Rattle.overlay_ids.specs.Laws.Split.{Free}
use Rattle.overlay_ids.proofs.last_at.Given as goal

abbrev pub invariant-loop-i : goal.invariant-loop-i
invariant-loop-i l = Free l.key l.i
