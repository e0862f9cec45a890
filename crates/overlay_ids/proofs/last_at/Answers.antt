-- `last_at` meets its contract.
use Rattle.overlay_ids.specs.Laws.Split.{free_start, free_next, free_found, free_whole}
use Rattle.overlay_ids.proofs.last_at.Goals as goal

pub loop-i-init : goal.loop-i-init
loop-i-init c = search free_start

pub returns-then-key-i-eq64 : goal.returns-then-key-i-eq64
returns-then-key-i-eq64 c = search free_found

pub loop-i-preserved : goal.loop-i-preserved
loop-i-preserved c = search free_next

pub returns : goal.returns
returns c = search free_whole
