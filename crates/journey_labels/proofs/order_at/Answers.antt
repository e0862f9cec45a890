-- `journey_labels::order_at` meets its contract.
use Rattle.journey_labels.specs.Laws.Labels.{ordered}
use Rattle.journey_labels.proofs.order_at.Goals as goal

pub returns : goal.returns
returns c = search ordered
