-- `alerts_ids::short_names_equal` meets its contract.
use Rattle.alerts_ids.specs.Laws.Names.{no_name, no_other, names_same}
use Rattle.alerts_ids.proofs.short_names_equal.Goals as goal

pub returns-then-s-eq0 : goal.returns-then-s-eq0
returns-then-s-eq0 c = search (no_name)

pub returns-then-t-eq0 : goal.returns-then-t-eq0
returns-then-t-eq0 c = search (no_other)

pub returns : goal.returns
returns c = search (names_same)
