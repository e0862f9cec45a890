-- `length_at` meets its contract.
use borrow.Author.Rules.{rules}
use Rattle.replay_script.proofs.Laws.Asked.{length_missing, length_found}
use Rattle.replay_script.proofs.length_at.Goals as goal

pub returns-then-n-i : goal.returns-then-n-i
returns-then-n-i c = length_missing c.number-n.ensures c.if-n-i.true

pub returns : goal.returns
returns c =
    length_found c.number-n.ensures c.if-n-i.false c.nth.ensures
    c.number.ensures
