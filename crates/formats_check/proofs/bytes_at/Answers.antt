-- `formats_check::bytes_at` meets its contract.
use Rattle.formats_check.specs.Laws.Climbing.{span_no, span_so}
use Rattle.formats_check.specs.Laws.Elements.{text_short}
use Rattle.formats_check.proofs.bytes_at.Goals as goal

pub returns-then-left-m : goal.returns-then-left-m
returns-then-left-m c = search (span_no, text_short, c.in_ok-n.was)

pub returns : goal.returns
returns c = search (span_so, c.in_ok-n.was)
