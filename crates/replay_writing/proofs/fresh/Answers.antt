-- `replay_writing::fresh` meets its contract.
use mathlib.Core.Path.{sym}
use mathlib.Core.List.{[]}
use lib.Seq.{length-take-le}
use Rattle.panel.specs.Lengths.{sized}
use Rattle.replay_writing.specs.Laws.Ran.{unlent, fresh_ran}
use borrow.Author.Rules.{rules}
use Rattle.replay_writing.proofs.fresh.Goals as goal

pub returns-then-lent-out : goal.returns-then-lent-out
returns-then-lent-out c = unlent c.if-lent-out.true

pub slice_bounds-fresh-end-2 : goal.slice_bounds-fresh-end-2
slice_bounds-fresh-end-2 c = sym (length-take-le c.args.out c.args.new.now (search rules))

pub returns : goal.returns
returns c =
    fresh_ran (sized c.args.n) [] c.args.new.now c.if-lent-out.false c.requires
    c.fresh.ensures
