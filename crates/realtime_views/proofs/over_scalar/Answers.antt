-- `realtime_views::over_scalar` meets its contract: a reading of one field, for each type. Assumes nothing.
use Rattle.realtime_views.proofs.Ones.{ones_end, no_key, broken_text, own_text, other_text}
use Rattle.realtime_views.proofs.Ones.{broken_number, own_number, other_number, broken_value, past_value}
use Rattle.realtime_views.proofs.Wires.{number_less, text_less, other_less}
use Rattle.realtime_views.proofs.over_scalar.Goals as goal

pub returns-in_default : goal.returns-in_default
returns-in_default c = search no_key

pub returns-in_default-text : goal.returns-in_default-text
returns-in_default-text c = search broken_text

pub loop-at-smaller-then-field-k : goal.loop-at-smaller-then-field-k
loop-at-smaller-then-field-k c = search text_less

pub loop-at-preserved-then-field-k : goal.loop-at-preserved-then-field-k
loop-at-preserved-then-field-k c = search own_text

pub loop-at-smaller-else-field-k : goal.loop-at-smaller-else-field-k
loop-at-smaller-else-field-k c = search text_less

pub loop-at-preserved-else-field-k : goal.loop-at-preserved-else-field-k
loop-at-preserved-else-field-k c = search other_text

pub returns-in_default-number : goal.returns-in_default-number
returns-in_default-number c = search broken_number

pub loop-at-smaller-then-field-k-2 : goal.loop-at-smaller-then-field-k-2
loop-at-smaller-then-field-k-2 c = search number_less

pub loop-at-preserved-then-field-k-2 : goal.loop-at-preserved-then-field-k-2
loop-at-preserved-then-field-k-2 c = search own_number

pub loop-at-smaller-else-field-k-2 : goal.loop-at-smaller-else-field-k-2
loop-at-smaller-else-field-k-2 c = search number_less

pub loop-at-preserved-else-field-k-2 : goal.loop-at-preserved-else-field-k-2
loop-at-preserved-else-field-k-2 c = search other_number

pub returns-in_default-past : goal.returns-in_default-past
returns-in_default-past c = search broken_value

pub loop-at-smaller : goal.loop-at-smaller
loop-at-smaller c = search other_less

pub loop-at-preserved : goal.loop-at-preserved
loop-at-preserved c = search past_value

pub returns : goal.returns
returns c = search ones_end
