-- `alerts_ids::is_digit` meets its contract.
use Rattle.alerts_ids.specs.Laws.Bytes.{digit_low, digit_high}
use Rattle.alerts_ids.proofs.is_digit.Goals as goal

pub returns-then-b-lt48 : goal.returns-then-b-lt48
returns-then-b-lt48 c = search (digit_low)

pub returns : goal.returns
returns c = search (digit_high)
