-- `calls` meets its contract.
use borrow.Author.Rules.{rules}
use Rattle.replay_script.proofs.Laws.Asked.{script_broken, script_short, script_at}
use Rattle.replay_script.proofs.calls.Goals as goal

pub returns-in_default : goal.returns-in_default
returns-in_default c = script_broken c.args.s.now c.past.ensures c.in_default.is

pub returns-then-end-s : goal.returns-then-end-s
returns-then-end-s c = script_short c.args.s.now c.past.ensures c.in-Some.is c.if-end-s.true

pub returns : goal.returns
returns c =
    script_at c.args.s.now c.past.ensures c.in-Some.is c.if-end-s.false
    c.number-n.ensures
