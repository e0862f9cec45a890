-- `alerts_lines::mark_at` meets its contract.
use Rattle.alerts_lines.specs.Laws.Marking.{nothing_stands, none_stood, all_stood}
use Rattle.alerts_lines.proofs.mark_at.Goals as goal

pub returns-then-s-j : goal.returns-then-s-j
returns-then-s-j c = search (nothing_stands)

pub returns-then-short-eq32 : goal.returns-then-short-eq32
returns-then-short-eq32 c = search (none_stood)

pub returns : goal.returns
returns c = search (all_stood)
