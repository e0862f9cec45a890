-- `alerts_patterns::skip_to` meets its contract.
use Rattle.alerts_patterns.specs.Laws.Skipping.{name_any, name_ranged, name_alone, name_nothing}
use Rattle.alerts_patterns.proofs.skip_to.Goals as goal

pub returns-then-first-lt2 : goal.returns-then-first-lt2
returns-then-first-lt2 c = search (name_any)

pub returns-then-before-ne0 : goal.returns-then-before-ne0
returns-then-before-ne0 c = search (name_ranged)

pub returns-then-first : goal.returns-then-first
returns-then-first c = search (name_alone)

pub returns : goal.returns
returns c = search (name_nothing)
