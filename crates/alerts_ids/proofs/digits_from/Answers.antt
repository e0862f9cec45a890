-- `alerts_ids::digits_from` meets its contract.
-- The invariant: the bytes from i on are digits where those from k on are.
use Rattle.alerts_ids.specs.Laws.Pieces.{every_not, every_more, every_all}
use Rattle.alerts_ids.proofs.digits_from.Goals as goal

pub returns-then-not-is_digit : goal.returns-then-not-is_digit
returns-then-not-is_digit c = search (every_not)

pub loop-k-preserved : goal.loop-k-preserved
loop-k-preserved c = search (every_more)

pub returns : goal.returns
returns c = search (every_all)
