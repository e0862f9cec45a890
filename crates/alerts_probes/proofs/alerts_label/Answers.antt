-- `alerts_probes::alerts_label` meets its contract.
use Rattle.alerts_probes.specs.Laws.Alert.{label_none, label_some}
use Rattle.alerts_probes.proofs.alerts_label.Goals as goal

pub returns-then-not-stands : goal.returns-then-not-stands
returns-then-not-stands c = search (label_none)

pub returns : goal.returns
returns c = search (label_some)
