-- `alerts_ids::has_alphanumeric` meets its contract. The invariant: one is there where one is from i on.
use Rattle.alerts_ids.specs.Laws.Pieces.{some_here, some_more, some_none}
use Rattle.alerts_ids.proofs.has_alphanumeric.Goals as goal

pub returns-then-is_alphanumeric : goal.returns-then-is_alphanumeric
returns-then-is_alphanumeric c = search (some_here)

pub loop-i-preserved : goal.loop-i-preserved
loop-i-preserved c = search (some_more)

pub returns : goal.returns
returns c = search (some_none)
