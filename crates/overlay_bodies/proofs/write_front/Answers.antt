-- `write_front` meets its contract.
use borrow.Author.Rules.{rules}
use Rattle.overlay_bodies.specs.Laws.Bodies.{front_written}
use Rattle.overlay_bodies.proofs.write_front.Goals as goal

pub returns : goal.returns
returns c =
    λ F e S.
    front_written S c.stretch-w1.ensures c.number-n.ensures c.number-w2.ensures
    c.stretch.ensures
