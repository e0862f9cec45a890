-- `realtime_views::last_sequence` meets its contract: a reading of one field by the bytes of keys. Assumes nothing.
use Rattle.realtime_views.proofs.Short.{sequences_end, next_sequence, past_relationship, past_part}
use Rattle.realtime_views.proofs.Short.{number_less, text_less}
use Rattle.realtime_views.proofs.last_sequence.Goals as goal

pub loop-at-smaller-then-b-eq-SEQUENCE_KEY : goal.loop-at-smaller-then-b-eq-SEQUENCE_KEY
loop-at-smaller-then-b-eq-SEQUENCE_KEY c = search number_less

pub loop-at-preserved-then-b-eq-SEQUENCE_KEY : goal.loop-at-preserved-then-b-eq-SEQUENCE_KEY
loop-at-preserved-then-b-eq-SEQUENCE_KEY c = search next_sequence

pub loop-at-smaller-then-b-eq-RELATIONSHIP_KEY : goal.loop-at-smaller-then-b-eq-RELATIONSHIP_KEY
loop-at-smaller-then-b-eq-RELATIONSHIP_KEY c = search number_less

pub loop-at-preserved-then-b-eq-RELATIONSHIP_KEY : goal.loop-at-preserved-then-b-eq-RELATIONSHIP_KEY
loop-at-preserved-then-b-eq-RELATIONSHIP_KEY c = search past_relationship

pub loop-at-smaller : goal.loop-at-smaller
loop-at-smaller c = search text_less

pub loop-at-preserved : goal.loop-at-preserved
loop-at-preserved c = search past_part

pub returns : goal.returns
returns c = search sequences_end
