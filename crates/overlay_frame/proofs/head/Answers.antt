-- `head` meets its contract: three writers, one after the other.
use Rattle.formats_write.specs.Laws.Adds.{then}
use Rattle.overlay_frame.proofs.head.Goals as goal

pub returns : goal.returns
returns c =
    then c.byte-w1.ensures (then c.number-w2.ensures
    c.number.ensures)
