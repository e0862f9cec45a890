-- `alerts_ids::tails_match` meets its contract.
use Rattle.alerts_ids.specs.Laws.Names.{tails_short, tails_same}
use Rattle.alerts_ids.proofs.tails_match.Goals as goal

pub returns-then-q-lt3 : goal.returns-then-q-lt3
returns-then-q-lt3 c = search (tails_short)

pub returns : goal.returns
returns c = search (tails_same)
