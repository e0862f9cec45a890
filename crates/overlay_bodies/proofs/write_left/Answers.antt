-- `write_left` meets its contract.
use borrow.Author.Rules.{rules}
use Rattle.overlay_bodies.specs.Laws.Bodies.{left_written}
use Rattle.overlay_bodies.proofs.write_left.Goals as goal

pub returns : goal.returns
returns c =
    left_written c.number-n.ensures c.number-m.ensures c.number-w1.ensures
    c.write_entries.ensures
