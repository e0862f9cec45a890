-- `replay` meets its contract.
use borrow.Author.Rules.{rules}
use Rattle.replay_calls.specs.Laws.Replay.{replayed}
use Rattle.replay_calls.proofs.replay.Goals as goal

pub returns : goal.returns
returns c = replayed c.smaller-lent.ensures c.run_script-e.ensures c.finish.ensures
