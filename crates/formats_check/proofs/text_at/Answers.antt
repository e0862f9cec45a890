-- `formats_check::text_at` meets its contract.
use Rattle.formats_check.specs.Laws.Climbing.{class_so, class_other}
use Rattle.formats_check.proofs.text_at.Goals as goal

pub returns-then-in_class : goal.returns-then-in_class
returns-then-in_class c = search (class_so, c.in_ok-a.was)

pub returns-else-in_class : goal.returns-else-in_class
returns-else-in_class c = search (class_other, c.in_ok-a.was)
