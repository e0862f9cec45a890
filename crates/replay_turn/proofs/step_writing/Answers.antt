-- `replay_turn::step_writing` meets its contract.
use Rattle.replay_turn.specs.Laws.Steps.{writing_told}
use borrow.Author.Rules.{rules}
use Rattle.replay_turn.proofs.step_writing.Goals as goal

pub returns : goal.returns
returns c = writing_told c.write-r.ensures c.tell.ensures c.is_accepted.ensures
