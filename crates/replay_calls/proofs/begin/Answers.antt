-- `begin` meets its contract.
use mathlib.Core.Path.{sym}
use borrow.Author.Rules.{rules}
use lib.Seq.{length-take-le}
use Rattle.replay_calls.specs.Laws.Replay.{begun}
use Rattle.panel.specs.Lengths.{sized}
use Rattle.replay_calls.proofs.begin.Goals as goal

pub slice_bounds-fresh-end-2 : goal.slice_bounds-fresh-end-2
slice_bounds-fresh-end-2 c = sym (length-take-le c.args.n c.args.a.now c.requires)

pub returns : goal.returns
returns c = begun (sized c.args.n) c.args.a.now c.requires c.fresh.ensures
