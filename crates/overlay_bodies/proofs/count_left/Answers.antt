-- `count_left` meets its contract.
use borrow.Author.Rules.{rules}
use Rattle.overlay_bodies.specs.Laws.Bodies.{left_counted}
use Rattle.overlay_bodies.proofs.count_left.Goals as goal

pub returns : goal.returns
returns c = left_counted c.number-n.ensures c.number-m.ensures c.count_entries.ensures
