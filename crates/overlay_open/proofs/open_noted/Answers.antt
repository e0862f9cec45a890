-- `overlay_open::open_noted` meets its contract.
use Rattle.formats_check.specs.Laws.Checked.{tested_in}
use Rattle.overlay_open.specs.Laws.Opened.{open_none, open_rest, open_so}
use Rattle.overlay_open.specs.Laws.Feeds.{notes_no, notes_so}
use Rattle.overlay_open.proofs.open_noted.Goals as goal

pub returns-in_err-p-clause-value : goal.returns-in_err-p-clause-value
returns-in_err-p-clause-value c = rw c.from_residual.ensures (search (open_none, c.in_err-p.was))

pub returns-in_err-p-clause-notes : goal.returns-in_err-p-clause-notes
returns-in_err-p-clause-notes c = rw c.from_residual.ensures notes_no

pub slice_bounds-all_zero-count : goal.slice_bounds-all_zero-count
slice_bounds-all_zero-count c = search (tested_in, c.in_ok-p.was)

pub slice_bounds-all_zero-start : goal.slice_bounds-all_zero-start
slice_bounds-all_zero-start c = search (tested_in, c.in_ok-p.was)

pub returns-then-all_zero-clause-value : goal.returns-then-all_zero-clause-value
returns-then-all_zero-clause-value c = search (open_so, c.in_ok-p.was)

pub returns-then-all_zero-clause-notes : goal.returns-then-all_zero-clause-notes
returns-then-all_zero-clause-notes c = search (notes_so, open_so, c.in_ok-p.was)

pub returns-clause-value : goal.returns-clause-value
returns-clause-value c = search (open_rest, c.in_ok-p.was)

pub returns-clause-notes : goal.returns-clause-notes
returns-clause-notes c = notes_no
