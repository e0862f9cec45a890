-- `taken` meets its contract.
use Rattle.journey_card.specs.Laws.Steps.{took}
use Rattle.journey_card.proofs.taken.Goals as goal

pub returns-then-b : goal.returns-then-b
returns-then-b c = took c.args.old c.ranges.t c.if-b.true
