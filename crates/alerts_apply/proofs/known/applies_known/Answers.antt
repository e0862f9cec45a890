-- `alerts_apply::known::applies_known` meets its contract.
use Rattle.alerts_apply.specs.Laws.Known.{applied_known}
use Rattle.alerts_apply.proofs.known.applies_known.Goals as goal

pub returns : goal.returns
returns c = search (applied_known)
