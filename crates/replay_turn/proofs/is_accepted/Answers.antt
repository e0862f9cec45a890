-- `replay_turn::is_accepted` meets its contract.
use Rattle.replay_turn.specs.Promises.Turns.{accepted_of}
use mathlib.Core.Path.{sym, ap}
use borrow.Author.Rules.{rules}
use Rattle.replay_turn.proofs.is_accepted.Goals as goal

pub returns-in-None : goal.returns-in-None
returns-in-None c = ap accepted_of (sym c.in-None.is)

pub returns-in-Some : goal.returns-in-Some
returns-in-Some c = ap accepted_of (sym c.in-Some.is)
