-- `alerts_ids::products::number_name` meets its contract.
use Rattle.alerts_ids.specs.Laws.LineCodes.{short_name, long_name}
use Rattle.alerts_ids.proofs.products.number_name.Goals as goal

pub returns-then-k-lt10 : goal.returns-then-k-lt10
returns-then-k-lt10 c = search short_name

pub returns : goal.returns
returns c = search long_name
