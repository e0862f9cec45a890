-- `alerts_patterns::skip` meets its contract.
use Rattle.alerts_patterns.specs.Laws.Skipping.{skips_name, skips_before, skips_both}
use Rattle.alerts_patterns.proofs.skip.Goals as goal

pub returns-then-before-eq0 : goal.returns-then-before-eq0
returns-then-before-eq0 c = search (skips_name)

pub returns-then-name-eq0 : goal.returns-then-name-eq0
returns-then-name-eq0 c = search (skips_before)

pub returns : goal.returns
returns c = search (skips_both)
