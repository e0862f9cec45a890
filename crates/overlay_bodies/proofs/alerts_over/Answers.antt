-- `alerts_over` meets its contract.
use borrow.Author.Rules.{rules}
use Rattle.overlay_bodies.specs.Laws.Bodies.{alerts_over}
use Rattle.overlay_bodies.proofs.alerts_over.Goals as goal

pub returns : goal.returns
returns c =
    λ vs F e A S.
    alerts_over A S c.stretch-w1.ensures c.stretch.ensures
