-- `alerts_ids::is_alphanumeric` meets its contract.
use Rattle.alerts_ids.specs.Laws.Bytes.{letter_low, letter_middle, letter_high}
use mathlib.Core.Path.{◌∙◌}
use Rattle.alerts_ids.proofs.is_alphanumeric.Goals as goal

pub returns-then-b-lt65 : goal.returns-then-b-lt65
returns-then-b-lt65 c = c.is_digit.ensures ∙ search (letter_low)

pub returns-then-b-lt97 : goal.returns-then-b-lt97
returns-then-b-lt97 c = search (letter_middle)

pub returns : goal.returns
returns c = search (letter_high)
