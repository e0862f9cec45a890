-- `alerts_ids::capital` meets its contract.
use Rattle.alerts_ids.specs.Laws.Bytes.{capital_low, capital_high, capital_letter}
use Rattle.alerts_ids.proofs.capital.Goals as goal

pub returns-then-b-lt97 : goal.returns-then-b-lt97
returns-then-b-lt97 c = search (capital_low)

pub returns-then-b-gt122 : goal.returns-then-b-gt122
returns-then-b-gt122 c = search (capital_high)

pub returns : goal.returns
returns c = search (capital_letter)
