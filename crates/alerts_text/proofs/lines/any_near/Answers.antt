-- `alerts_text::lines::any_near` meets its contract. The invariant: the patterns from `at` on are still to be tried.
use Rattle.alerts_patterns.specs.Laws.Patterns.{untried_start, tried, untried_more, tried_last}
use Rattle.alerts_text.proofs.lines.any_near.Goals as goal

pub loop-e-init : goal.loop-e-init
loop-e-init c = search (untried_start)

pub returns-then-near_marker : goal.returns-then-near_marker
returns-then-near_marker c = search (tried)

pub loop-e-preserved : goal.loop-e-preserved
loop-e-preserved c = search (untried_more)

pub returns : goal.returns
returns c = search (tried_last)
