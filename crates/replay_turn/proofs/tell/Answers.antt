-- `replay_turn::tell` meets its contract.
use Rattle.replay_turn.specs.Laws.Steps.{tells_none, tells_number}
use borrow.Author.Rules.{rules}
use Rattle.replay_turn.proofs.tell.Goals as goal

pub returns-in-None : goal.returns-in-None
returns-in-None c = tells_none c.in-None.is

pub returns-in-Some : goal.returns-in-Some
returns-in-Some c = tells_number c.in-Some.is c.octet.ensures c.byte.ensures
