-- `replay_turn::run_one` meets its contract.
use Rattle.replay_turn.specs.Laws.Steps.{turned_writing, turned_card, turned_report}
use borrow.Author.Rules.{rules}
use Rattle.replay_turn.proofs.run_one.Goals as goal

pub returns-then-kind-lt4 : goal.returns-then-kind-lt4
returns-then-kind-lt4 c = turned_writing c.read-q.ensures c.if-kind-lt4.true c.step_writing.ensures

pub returns-then-kind-eq4 : goal.returns-then-kind-eq4
returns-then-kind-eq4 c = turned_card c.args.new.now c.read-q.ensures c.if-kind-eq4.true c.card.ensures

pub returns : goal.returns
returns c =
    turned_report c.args.new.now c.read-q.ensures c.if-kind-lt4.false c.if-kind-eq4.false
    c.report.ensures
