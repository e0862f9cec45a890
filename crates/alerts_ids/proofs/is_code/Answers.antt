-- `alerts_ids::is_code` meets its contract.
use Rattle.alerts_ids.specs.Laws.Pieces.{code_short, code_long, code_other, code_digits}
use Rattle.alerts_ids.proofs.is_code.Goals as goal

pub returns-then-p-lt5 : goal.returns-then-p-lt5
returns-then-p-lt5 c = search (code_short)

pub returns-then-p-gt8 : goal.returns-then-p-gt8
returns-then-p-gt8 c = search (code_long)

pub returns-then-capital-ne67 : goal.returns-then-capital-ne67
returns-then-capital-ne67 c = search (code_other)

pub returns : goal.returns
returns c = search (code_digits)
