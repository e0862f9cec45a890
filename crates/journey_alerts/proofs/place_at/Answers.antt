-- `place_at` meets its contract.
use Rattle.journey_alerts.specs.Laws.Places.{beyond}
use borrow.Author.Rules.{rules}
use Rattle.journey_alerts.proofs.place_at.Goals as goal

pub returns-then-a-i : goal.returns-then-a-i
returns-then-a-i c = search beyond
