-- `alerts_lines::picked` meets its contract.
use Rattle.alerts_lines.specs.Laws.Choosing.{pick_unnamed, pick_named, pick_own, pick_another, pick_not}
use Rattle.alerts_lines.specs.Laws.Choosing.{pick_subject}
use Rattle.alerts_lines.proofs.picked.Goals as goal

pub returns-then-not-named : goal.returns-then-not-named
returns-then-not-named c = search (pick_unnamed)

pub returns-then-own : goal.returns-then-own
returns-then-own c = search (pick_not)

pub returns-in-Named : goal.returns-in-Named
returns-in-Named c = search (pick_named)

pub returns-in-Own : goal.returns-in-Own
returns-in-Own c = search (pick_own)

pub returns-in-Another : goal.returns-in-Another
returns-in-Another c = search (pick_another)

pub returns-else-own : goal.returns-else-own
returns-else-own c = search (pick_subject)
