-- `vehicles_over` meets its contract.
use borrow.Author.Rules.{rules}
use Rattle.maps.specs.Map.{puts}
use Rattle.maps.specs.Order.{texts}
use Rattle.overlay.specs.State.{vehicles_of}
use Rattle.overlay.specs.Change.{without_stale}
use Rattle.overlay_bodies.specs.Laws.Bodies.{vehicles_over}
use Rattle.overlay_bodies.proofs.vehicles_over.Goals as goal

pub returns : goal.returns
returns c =
    λ F e xs clock z S I k.
    vehicles_over S (without_stale clock (puts texts xs (vehicles_of F))) (c.write_front-w1.ensures F e S)
    (c.write_left-w2.ensures.of xs (vehicles_of F) clock z I k) c.stretch.ensures
