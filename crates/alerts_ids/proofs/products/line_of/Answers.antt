-- `alerts_ids::products::line_of` meets its contract. The invariant: the rows before `at` have other codes.
use Rattle.alerts_ids.specs.Laws.Products.{seeking_start, row_found, seeking_on, none_found}
use Rattle.alerts_ids.proofs.products.line_of.Goals as goal

pub loop-left-init : goal.loop-left-init
loop-left-init c = search (seeking_start)

pub returns-then-same_ignoring_case : goal.returns-then-same_ignoring_case
returns-then-same_ignoring_case c = search (row_found)

pub loop-left-preserved : goal.loop-left-preserved
loop-left-preserved c = search (seeking_on)

pub returns : goal.returns
returns c = search (none_found)
