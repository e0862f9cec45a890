-- `card_work` meets its contract.
use borrow.Author.Rules.{rules}
use Rattle.replay_reading.specs.Laws.Card.{card_work_read}
use Rattle.replay_reading.proofs.card_work.Goals as goal

pub returns : goal.returns
returns c =
    card_work_read c.length_at.ensures c.length_at-2.ensures
    c.length_at-3.ensures c.length_at-4.ensures
