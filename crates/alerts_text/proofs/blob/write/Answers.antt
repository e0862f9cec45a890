-- `alerts_text::blob::write` meets its contract. The invariant: what is written, and what is left, is the text as it
-- is searched.
use Rattle.alerts_text.proofs.Folding.{writing_more, written, writing_start}
use Rattle.alerts_text.proofs.blob.write.Goals as goal

pub loop-i-init : goal.loop-i-init
loop-i-init c = writing_start _ _ _ _

pub loop-i-preserved : goal.loop-i-preserved
loop-i-preserved c = search (writing_more)

pub returns : goal.returns
returns c = search (written)
