-- `alerts_text::word::gather` meets its contract.
use Rattle.alerts_text.specs.Laws.Word.{gather_start, gather_room, gather_more, gather_end}
use Rattle.alerts_text.proofs.word.gather.Goals as goal

pub loop-k-init : goal.loop-k-init
loop-k-init c = search (gather_start)

pub below-word-requires : goal.below-word-requires
below-word-requires c = search (gather_room)

pub loop-k-preserved : goal.loop-k-preserved
loop-k-preserved c = search (gather_more)

pub returns : goal.returns
returns c = search (gather_end)
