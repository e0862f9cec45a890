-- `journey_labels::stands` meets its contract.
use Rattle.journey_labels.specs.Laws.Labels.{stands_beyond, stands_so, inside_at, at_from, at_to}
use Rattle.journey_labels.proofs.stands.Goals as goal

pub returns-then-r-n : goal.returns-then-r-n
returns-then-r-n c = search stands_beyond

pub order_at-requires : goal.order_at-requires
order_at-requires c = search (inside_at, at_from, at_to)

pub returns : goal.returns
returns c = search stands_so
