-- `realtime_views::over_message` meets its contract. The invariant: what is left, over what is known now, makes what
-- the whole makes. Assumes nothing.
use Rattle.realtime_read.specs.Laws.Steps.{step_is}
use Rattle.realtime_views.proofs.Reader.{keep_number, keep_text}
use Rattle.realtime_views.proofs.over_message.Goals as goal

pub loop-d-preserved-in-Number : goal.loop-d-preserved-in-Number
loop-d-preserved-in-Number c =
    keep_number c.loop-d.invariant
    (step_is c.next.ensures c.in-Number.is)
    c.keep-d.ensures

pub loop-d-preserved-in-Text : goal.loop-d-preserved-in-Text
loop-d-preserved-in-Text c =
    keep_text c.loop-d.invariant
    (step_is c.next.ensures c.in-Text.is)
    c.keep-d-in-Text.ensures
