-- `alerts_ids::products::digits_value` meets its contract.
use Rattle.alerts_ids.specs.Laws.LineCodes.{five_digits}
use Rattle.alerts_ids.proofs.products.digits_value.Goals as goal

pub returns : goal.returns
returns c = search five_digits
