-- `closing` meets its contract.
use Rattle.overlay_frame.specs.Laws.Frame.{closed}
use Rattle.overlay_frame.proofs.closing.Goals as goal

pub returns : goal.returns
returns c = λ s f from count S. closed S c.stretch.ensures
