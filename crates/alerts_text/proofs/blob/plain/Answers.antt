-- `alerts_text::blob::plain` meets its contract.
use Rattle.alerts_text.proofs.Folding.{plain_other, plain_low, plain_high, plain_table}
use Rattle.alerts_text.proofs.blob.plain.Goals as goal

pub returns-then-a-ne195 : goal.returns-then-a-ne195
returns-then-a-ne195 c = search (plain_other)

pub returns-then-b-lt128 : goal.returns-then-b-lt128
returns-then-b-lt128 c = search (plain_low)

pub returns-then-b-gt191 : goal.returns-then-b-gt191
returns-then-b-gt191 c = search (plain_high)

pub returns : goal.returns
returns c = search (plain_table)
