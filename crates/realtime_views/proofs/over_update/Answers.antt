-- `realtime_views::over_update` meets its contract: two readings in one walk. Assumes nothing.
use Rattle.realtime_views.proofs.Trips.{updates_end, updates_no_key, updates_no_text}
use Rattle.realtime_views.proofs.Trips.{updates_ready, updates_trip, updates_text, updates_no_number}
use Rattle.realtime_views.proofs.Trips.{updates_delay, updates_number, updates_no_other, updates_other}
use Rattle.realtime_views.proofs.Wires.{number_less, text_less, other_less}
use Rattle.realtime_views.proofs.over_update.Goals as goal

pub returns-in_default : goal.returns-in_default
returns-in_default c = search updates_no_key

pub returns-in_default-text : goal.returns-in_default-text
returns-in_default-text c = search updates_no_text

pub over_message-trip-requires : goal.over_message-trip-requires
over_message-trip-requires c = search updates_ready

pub loop-at-smaller-then-field-eq-TRIP : goal.loop-at-smaller-then-field-eq-TRIP
loop-at-smaller-then-field-eq-TRIP c = search text_less

pub loop-at-preserved-then-field-eq-TRIP : goal.loop-at-preserved-then-field-eq-TRIP
loop-at-preserved-then-field-eq-TRIP c = search updates_trip

pub loop-at-smaller-else-field-eq-TRIP : goal.loop-at-smaller-else-field-eq-TRIP
loop-at-smaller-else-field-eq-TRIP c = search text_less

pub loop-at-preserved-else-field-eq-TRIP : goal.loop-at-preserved-else-field-eq-TRIP
loop-at-preserved-else-field-eq-TRIP c = search updates_text

pub returns-in_default-number : goal.returns-in_default-number
returns-in_default-number c = search updates_no_number

pub loop-at-smaller-then-field-eq-DELAY : goal.loop-at-smaller-then-field-eq-DELAY
loop-at-smaller-then-field-eq-DELAY c = search number_less

pub loop-at-preserved-then-field-eq-DELAY : goal.loop-at-preserved-then-field-eq-DELAY
loop-at-preserved-then-field-eq-DELAY c = search updates_delay

pub loop-at-smaller-else-field-eq-DELAY : goal.loop-at-smaller-else-field-eq-DELAY
loop-at-smaller-else-field-eq-DELAY c = search number_less

pub loop-at-preserved-else-field-eq-DELAY : goal.loop-at-preserved-else-field-eq-DELAY
loop-at-preserved-else-field-eq-DELAY c = search updates_number

pub returns-in_default-past : goal.returns-in_default-past
returns-in_default-past c = search updates_no_other

pub loop-at-smaller : goal.loop-at-smaller
loop-at-smaller c = search other_less

pub loop-at-preserved : goal.loop-at-preserved
loop-at-preserved c = search updates_other

pub returns : goal.returns
returns c = search updates_end
