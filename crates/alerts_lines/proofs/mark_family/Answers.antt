-- `alerts_lines::mark_family` meets its contract.
use Rattle.alerts_lines.specs.Laws.Marking.{family_none, family_row, front_length}
use Rattle.alerts_lines.proofs.mark_family.Goals as goal

pub returns-then-family-h : goal.returns-then-family-h
returns-then-family-h c = search (family_none)

pub slice_bounds-mark_row-end : goal.slice_bounds-mark_row-end
slice_bounds-mark_row-end c = search (front_length)

pub returns : goal.returns
returns c = search (family_row)
