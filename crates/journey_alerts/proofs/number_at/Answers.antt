-- `number_at` meets its contract.
use Rattle.journey_alerts.specs.Laws.Places.{beyond}
use borrow.Author.Rules.{rules}
use Rattle.journey_alerts.proofs.number_at.Goals as goal

pub returns-then-a-k : goal.returns-then-a-k
returns-then-a-k c = search beyond
