-- `alerts_probes::applies_twice` meets its contract.
use Rattle.alerts_probes.specs.Laws.Alert.{twice}
use Rattle.alerts_probes.proofs.applies_twice.Goals as goal

pub returns : goal.returns
returns c = search (twice)
