-- `alerts_label::goes_on` meets its contract.
use Rattle.alerts_label.proofs.Characters.{continues_low, continues_high}
use Rattle.alerts_label.proofs.goes_on.Goals as goal

pub returns-then-b-ge128 : goal.returns-then-b-ge128
returns-then-b-ge128 c = search (continues_high)

pub returns : goal.returns
returns c = search (continues_low)
