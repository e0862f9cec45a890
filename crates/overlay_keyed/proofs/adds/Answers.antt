-- `overlay_keyed::adds` meets its contract.
use Rattle.overlay_keyed.specs.Laws.Trips.{plain_feed, plain_key, plain_so}
use borrow.Author.Rules.{rules}
use Rattle.overlay_keyed.proofs.adds.Goals as goal

pub returns-then-marked : goal.returns-then-marked
returns-then-marked c = (search plain_feed, search rules)

pub returns-then-has_at : goal.returns-then-has_at
returns-then-has_at c = (search plain_key, search rules)

pub returns : goal.returns
returns c = (search plain_so, search rules)
