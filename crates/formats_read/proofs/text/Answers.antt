-- `text` meets its contract.
use Rattle.formats_read.proofs.Laws
use Rattle.formats_read.proofs.text.Goals as goal
use Rattle.formats_read.proofs.text.Goals.{then-s-from-via-then-s-from, then-s-from-via-else-s-from+then-s-from-2}

pub returns-then-s-from : goal.returns-then-s-from
returns-then-s-from c =
    elim c.then-s-from.branch [
      | then-s-from-via-then-s-from w ↦ search (Laws.text_out)
      | then-s-from-via-else-s-from+then-s-from-2 w ↦ search (Laws.text_over)
    ]

pub returns : goal.returns
returns c = search (Laws.text_in)
