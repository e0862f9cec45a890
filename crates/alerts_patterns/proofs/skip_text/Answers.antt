-- `alerts_patterns::skip_text` meets its contract.
use Rattle.alerts_patterns.specs.Laws.Skipping.{skips_none, skips_text}
use Rattle.alerts_patterns.proofs.skip_text.Goals as goal

pub returns-then-p-eq0 : goal.returns-then-p-eq0
returns-then-p-eq0 c = search (skips_none)

pub returns : goal.returns
returns c = search (skips_text)
