-- `alerts_ids::products::code_number` meets its contract.
use Rattle.alerts_ids.specs.Laws.LineCodes.{number_long, number_other, number_code}
use Rattle.alerts_ids.proofs.products.code_number.Goals as goal

pub returns-then-code-ne6 : goal.returns-then-code-ne6
returns-then-code-ne6 c = search number_long

pub returns-then-is_code : goal.returns-then-is_code
returns-then-is_code c = search number_code

pub returns : goal.returns
returns c = search number_other
