-- `opening` meets its contract.
use Rattle.overlay_frame.specs.Laws.Frame.{opened}
use Rattle.overlay_frame.proofs.opening.Goals as goal

pub returns : goal.returns
returns c =
    λ q s to S. opened S c.args.version c.read_head-first.ensures c.head-w1.ensures
    c.stretch-w2.ensures c.text.ensures
