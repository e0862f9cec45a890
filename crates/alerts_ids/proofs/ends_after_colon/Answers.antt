-- `alerts_ids::ends_after_colon` meets its contract.
use Rattle.alerts_ids.specs.Laws.Ends.{colon_short, colon_differs, colon_same}
use Rattle.alerts_ids.proofs.ends_after_colon.Goals as goal

pub returns-then-t-x : goal.returns-then-t-x
returns-then-t-x c = search (colon_short)

pub returns-then-t-k-ne58 : goal.returns-then-t-k-ne58
returns-then-t-k-ne58 c = search (colon_differs)

pub returns : goal.returns
returns c = search (colon_same)
