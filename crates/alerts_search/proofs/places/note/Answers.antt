-- `alerts_search::places::note` meets its contract.
use Rattle.alerts_search.specs.Laws.Places.{keep_out, keep_far, keep_here}
use Rattle.alerts_search.proofs.places.note.Goals as goal

pub returns-then-places-i : goal.returns-then-places-i
returns-then-places-i c = search (keep_out)

pub returns-then-p-gt4294967295 : goal.returns-then-p-gt4294967295
returns-then-p-gt4294967295 c = search (keep_far)

pub returns : goal.returns
returns c = search (keep_here)
