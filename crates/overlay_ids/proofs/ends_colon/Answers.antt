-- `ends_colon` meets its contract.
use Rattle.overlay_ids.specs.Laws.Joined.{colon_short, colon_other, colon_same}
use Rattle.overlay_ids.proofs.ends_colon.Goals as goal

pub returns-then-s-id : goal.returns-then-s-id
returns-then-s-id c = search colon_short

pub returns-then-s-p-ne58 : goal.returns-then-s-p-ne58
returns-then-s-p-ne58 c = search colon_other

pub returns : goal.returns
returns c = search colon_same
