-- `Cursor::number` meets its contract: one byte below 128 is the whole number. Assumes nothing.
use Rattle.wire.proofs.Number.{number_short}
use borrow.Author.Rules.{rules}
use Rattle.wire.proofs.Cursor.number.Goals as goal

pub returns-then-b-lt128 : goal.returns-then-b-lt128
returns-then-b-lt128 c = number_short _ _ _ c.from-b.ensures (search rules) c.if-b-lt128.true
