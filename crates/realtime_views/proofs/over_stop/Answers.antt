-- `realtime_views::over_stop` meets its contract: a reading of each field by the bytes of keys. Assumes nothing.
use Rattle.realtime_views.proofs.Short.{number_less, text_less, short_sequence}
use Rattle.realtime_views.proofs.Short.{short_relationship, short_arrival, short_departure, short_stop}
use Rattle.realtime_views.proofs.Short.{short_end}
use Rattle.realtime_views.proofs.over_stop.Goals as goal

pub loop-at-smaller-then-b-eq-SEQUENCE_KEY : goal.loop-at-smaller-then-b-eq-SEQUENCE_KEY
loop-at-smaller-then-b-eq-SEQUENCE_KEY c = search number_less

pub loop-at-preserved-then-b-eq-SEQUENCE_KEY : goal.loop-at-preserved-then-b-eq-SEQUENCE_KEY
loop-at-preserved-then-b-eq-SEQUENCE_KEY c = search short_sequence

pub loop-at-smaller-then-b-eq-RELATIONSHIP_KEY : goal.loop-at-smaller-then-b-eq-RELATIONSHIP_KEY
loop-at-smaller-then-b-eq-RELATIONSHIP_KEY c = search number_less

pub loop-at-preserved-then-b-eq-RELATIONSHIP_KEY : goal.loop-at-preserved-then-b-eq-RELATIONSHIP_KEY
loop-at-preserved-then-b-eq-RELATIONSHIP_KEY c = search short_relationship

pub loop-at-smaller-then-b-eq-ARRIVAL_KEY : goal.loop-at-smaller-then-b-eq-ARRIVAL_KEY
loop-at-smaller-then-b-eq-ARRIVAL_KEY c = search text_less

pub loop-at-preserved-then-b-eq-ARRIVAL_KEY : goal.loop-at-preserved-then-b-eq-ARRIVAL_KEY
loop-at-preserved-then-b-eq-ARRIVAL_KEY c = search short_arrival

pub loop-at-smaller-then-b-eq-DEPARTURE_KEY : goal.loop-at-smaller-then-b-eq-DEPARTURE_KEY
loop-at-smaller-then-b-eq-DEPARTURE_KEY c = search text_less

pub loop-at-preserved-then-b-eq-DEPARTURE_KEY : goal.loop-at-preserved-then-b-eq-DEPARTURE_KEY
loop-at-preserved-then-b-eq-DEPARTURE_KEY c = search short_departure

pub loop-at-smaller : goal.loop-at-smaller
loop-at-smaller c = search text_less

pub loop-at-preserved : goal.loop-at-preserved
loop-at-preserved c = search short_stop

pub returns : goal.returns
returns c = search short_end
