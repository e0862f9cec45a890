-- `alerts_ids::by_name` meets its contract.
use Rattle.alerts_ids.specs.Laws.Names.{name_long, name_other, name_coded, name_plain}
use Rattle.alerts_ids.proofs.by_name.Goals as goal

pub returns-then-g-gt4 : goal.returns-then-g-gt4
returns-then-g-gt4 c = search (name_long)

pub returns-then-not-short_names_equal : goal.returns-then-not-short_names_equal
returns-then-not-short_names_equal c = search (name_other)

pub returns-in-Some : goal.returns-in-Some
returns-in-Some c = search (name_coded)

pub returns-in-None : goal.returns-in-None
returns-in-None c = search (name_plain)
