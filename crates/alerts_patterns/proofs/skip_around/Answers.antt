-- `alerts_patterns::skip_around` meets its contract.
use Rattle.alerts_patterns.specs.Laws.Skipping.{skips_front, skips_ends}
use Rattle.alerts_patterns.proofs.skip_around.Goals as goal

pub returns-then-before-eq0 : goal.returns-then-before-eq0
returns-then-before-eq0 c = search (skips_front)

pub returns-then-after-eq0 : goal.returns-then-after-eq0
returns-then-after-eq0 c = search (skips_front)

pub returns : goal.returns
returns c = search (skips_ends)
