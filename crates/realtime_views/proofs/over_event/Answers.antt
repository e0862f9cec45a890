-- `realtime_views::over_event` meets its contract: a reading of each of its two numbers, in one walk. Assumes nothing.
use Rattle.realtime_views.proofs.Stops.{event_ends, event_no_key, event_no_number}
use Rattle.realtime_views.proofs.Stops.{event_delay, event_time, event_number, event_no_other, event_other}
use Rattle.realtime_views.proofs.Wires.{number_less, other_less}
use Rattle.realtime_views.proofs.over_event.Goals as goal

pub returns-in_default : goal.returns-in_default
returns-in_default c = search event_no_key

pub returns-in_default-number : goal.returns-in_default-number
returns-in_default-number c = search event_no_number

pub loop-at-smaller-then-field-eq-DELAY : goal.loop-at-smaller-then-field-eq-DELAY
loop-at-smaller-then-field-eq-DELAY c = search number_less

pub loop-at-preserved-then-field-eq-DELAY : goal.loop-at-preserved-then-field-eq-DELAY
loop-at-preserved-then-field-eq-DELAY c = search event_delay

pub loop-at-smaller-then-field-eq-TIME : goal.loop-at-smaller-then-field-eq-TIME
loop-at-smaller-then-field-eq-TIME c = search number_less

pub loop-at-preserved-then-field-eq-TIME : goal.loop-at-preserved-then-field-eq-TIME
loop-at-preserved-then-field-eq-TIME c = search event_time

pub loop-at-smaller-else-field-eq-TIME : goal.loop-at-smaller-else-field-eq-TIME
loop-at-smaller-else-field-eq-TIME c = search number_less

pub loop-at-preserved-else-field-eq-TIME : goal.loop-at-preserved-else-field-eq-TIME
loop-at-preserved-else-field-eq-TIME c = search event_number

pub returns-in_default-past : goal.returns-in_default-past
returns-in_default-past c = search event_no_other

pub loop-at-smaller : goal.loop-at-smaller
loop-at-smaller c = search other_less

pub loop-at-preserved : goal.loop-at-preserved
loop-at-preserved c = search event_other

pub returns : goal.returns
returns c = search event_ends
