-- `replay_writing::message_work` meets its contract.
use Rattle.replay_writing.specs.Laws.Ran.{work_read}
use borrow.Author.Rules.{rules}
use Rattle.replay_writing.proofs.message_work.Goals as goal

pub returns : goal.returns
returns c = work_read c.length_at.ensures c.length_at-2.ensures c.length_at-3.ensures
