-- `replay_turn::take_turn` meets its contract.
use lib.Seq.{length-take-le}
use mathlib.Core.Path.{sym}
use Rattle.replay_turn.specs.Laws.Steps.{turn_on, turn_back}
use borrow.Author.Rules.{rules}
use Rattle.replay_turn.proofs.take_turn.Goals as goal

pub slice_bounds-run_one-end-then-first : goal.slice_bounds-run_one-end-then-first
slice_bounds-run_one-end-then-first c = sym (length-take-le c.args.n c.args.a.now (search rules))

pub returns-then-first : goal.returns-then-first
returns-then-first c =
    turn_on c.args.n c.args.a.now c.run_one-r.new.new c.args.b.now c.run_one-r.result.moved c.if-first.true
    c.run_one-r.ensures

pub slice_bounds-run_one-end-3 : goal.slice_bounds-run_one-end-3
slice_bounds-run_one-end-3 c = sym (length-take-le c.args.n c.args.b.now (search rules))

pub returns : goal.returns
returns c =
    turn_back c.args.n c.run_one-r-2.new.new c.args.b.now c.args.a.now c.run_one-r-2.result.moved c.if-first.false
    c.run_one-r-2.ensures
