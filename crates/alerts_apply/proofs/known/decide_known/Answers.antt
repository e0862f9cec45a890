-- `alerts_apply::known::decide_known` meets its contract.
use Rattle.alerts_apply.specs.Laws.Known.{known_new, known_kept}
use Rattle.alerts_apply.proofs.known.decide_known.Goals as goal

pub returns-then-at-gt4294967295 : goal.returns-then-at-gt4294967295
returns-then-at-gt4294967295 c = search (known_new)

pub returns-then-known-k : goal.returns-then-known-k
returns-then-known-k c = search (known_new)

pub returns : goal.returns
returns c = search (known_kept)
