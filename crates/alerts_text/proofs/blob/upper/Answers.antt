-- `alerts_text::blob::upper` meets its contract.
use Rattle.alerts_text.proofs.Folding.{upper_low, upper_high, upper_letter}
use Rattle.alerts_text.proofs.blob.upper.Goals as goal

pub returns-then-b-lt97 : goal.returns-then-b-lt97
returns-then-b-lt97 c = search (upper_low)

pub returns-then-b-gt122 : goal.returns-then-b-gt122
returns-then-b-gt122 c = search (upper_high)

pub returns : goal.returns
returns c = search (upper_letter)
