-- `run_script` meets its contract.
use borrow.Author.Rules.{rules}
use mathlib.Core.Path.{refl}
use Rattle.replay_calls.specs.Laws.Replay.{short_overlay, broken_script, turns_taken}
use Rattle.replay_calls.proofs.run_script.Goals as goal

pub returns-then-lent-n : goal.returns-then-lent-n
returns-then-lent-n c = short_overlay c.if-lent-n.true refl

pub returns-in_default : goal.returns-in_default
returns-in_default c = broken_script c.calls.ensures c.in_default.is refl

pub take_turns-w-requires-clause-overlays : goal.take_turns-w-requires-clause-overlays
take_turns-w-requires-clause-overlays c =
    record {
      first = search rules;
      second = c.requires.1;
      room = c.if-lent-n.false;
      most = c.requires.2;
    }

pub take_turns-w-requires-clause-a_value : goal.take_turns-w-requires-clause-a_value
take_turns-w-requires-clause-a_value c = c.begin.ensures

pub returns : goal.returns
returns c =
    turns_taken c.calls.ensures c.in-Some.is
    c.take_turns-w.ensures c.ended.ensures
