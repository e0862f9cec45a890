-- `alerts_probes::stands` meets its contract.
use Rattle.alerts_probes.specs.Laws.Alert.{stands_broken, stands_at}
use Rattle.alerts_probes.proofs.stands.Goals as goal

pub returns-in_default : goal.returns-in_default
returns-in_default c = search (stands_broken)

pub returns : goal.returns
returns c = search (stands_at)
