-- `read` meets its contract.
use borrow.Author.Rules.{rules}
use Rattle.replay_script.proofs.Laws.Asked.{call_read}
use Rattle.replay_script.proofs.read.Goals as goal

pub returns : goal.returns
returns c =
    call_read c.text-feed.result c.text-input.result c.field.ensures c.text-feed.ensures
    c.field-2.ensures c.text-input.ensures c.field-work.ensures c.number.ensures
    c.field-3.ensures c.field-4.ensures c.number-2.ensures c.past_lengths.ensures
