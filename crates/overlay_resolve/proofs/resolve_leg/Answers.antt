-- `resolve_leg` meets its contract.
use Rattle.overlay_resolve.specs.Laws.Resolve.{dated}
use Rattle.overlay_resolve.proofs.resolve_leg.Goals as goal

pub returns : goal.returns
returns c = search dated
