-- `overlay_keys::matches` meets its contract.
use Rattle.overlay_keys.specs.Laws.Keys.{head_inside, match_head, match_so, match_tail}
use Rattle.overlay_keys.proofs.matches.Goals as goal

pub returns-in_default : goal.returns-in_default
returns-in_default c = search match_head

pub tail-requires-clause-inside_3 : goal.tail-requires-clause-inside_3
tail-requires-clause-inside_3 c = search head_inside

pub returns-in_default-tail : goal.returns-in_default-tail
returns-in_default-tail c = search match_tail

pub returns : goal.returns
returns c = search match_so
