-- `alerts_apply::applies::is_told` meets its contract.
use Rattle.alerts_apply.specs.Laws.Hits.{told_trip, told_stop, told_none, told_text}
use Rattle.alerts_apply.proofs.applies.is_told.Goals as goal

pub returns-then-h : goal.returns-then-h
returns-then-h c = search (told_trip)

pub returns-then-h-2 : goal.returns-then-h-2
returns-then-h-2 c = search (told_stop)

pub returns-then-not-h : goal.returns-then-not-h
returns-then-not-h c = search (told_none)

pub returns : goal.returns
returns c = search (told_text)
