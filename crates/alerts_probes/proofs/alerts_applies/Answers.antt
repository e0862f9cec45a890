-- `alerts_probes::alerts_applies` meets its contract.
use Rattle.alerts_probes.specs.Laws.Alert.{answer_room, answer_long, answer_none, answer_yes, answer_no}
use Rattle.alerts_probes.proofs.alerts_applies.Goals as goal

pub returns-then-text-lt2626 : goal.returns-then-text-lt2626
returns-then-text-lt2626 c = search (answer_room)

pub returns-then-short-gt64 : goal.returns-then-short-gt64
returns-then-short-gt64 c = search (answer_long)

pub returns-then-not-stands : goal.returns-then-not-stands
returns-then-not-stands c = search (answer_none)

pub returns-then-applies_twice : goal.returns-then-applies_twice
returns-then-applies_twice c = search (answer_yes)

pub returns : goal.returns
returns c = search (answer_no)
