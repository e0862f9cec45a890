-- `replay_writing::alert_sheet` meets its contract.
use Rattle.panel.specs.Lengths.{sized}
use mathlib.Core.Path.{sym}
use lib.Seq.{length-take-le}
use Rattle.replay_writing.specs.Laws.Ran.{unlent, alerts_ran}
use borrow.Author.Rules.{rules}
use Rattle.replay_writing.proofs.alert_sheet.Goals as goal

pub returns-then-lent-out : goal.returns-then-lent-out
returns-then-lent-out c = unlent c.if-lent-out.true

pub slice_bounds-alert_sheet-end-4 : goal.slice_bounds-alert_sheet-end-4
slice_bounds-alert_sheet-end-4 c = sym (length-take-le c.args.q.out c.args.new.now (search rules))

pub returns : goal.returns
returns c =
    alerts_ran (sized c.args.n) c.args.old.now c.args.s.now c.args.new.now
    c.args.q c.requires.spans c.if-lent-out.false c.requires.lent_in_bounds c.alert_sheet.ensures
