-- `replay_writing::vehicle_sheet` meets its contract.
use mir.Syntax.{w64}
use mir.Facts.{to_z-of_z}
use Rattle.panel.specs.Lengths.{sized}
use mathlib.Core.Path.{sym, ◌∙◌}
use lib.Seq.{length-take-le}
use Rattle.replay_writing.specs.Laws.Ran.{unlent, vehicles_ran}
use borrow.Author.Rules.{rules}
use Rattle.replay_writing.proofs.vehicle_sheet.Goals as goal

pub returns-then-lent-out : goal.returns-then-lent-out
returns-then-lent-out c = λ z e h. unlent c.if-lent-out.true

pub slice_bounds-vehicle_sheet-end-4 : goal.slice_bounds-vehicle_sheet-end-4
slice_bounds-vehicle_sheet-end-4 c = sym (length-take-le c.args.q.out c.args.new.now (search rules))

pub returns : goal.returns
returns c =
    λ z e h. vehicles_ran (sized c.args.n) c.args.old.now c.args.s.now c.args.new.now c.args.q c.requires.spans
    c.if-lent-out.false c.requires.lent_in_bounds z (to_z-of_z {w = w64} (record {
      sfits
          = c.signed-clock.type_inv;
    }) ∙ c.signed-clock.ensures _ _ z e h) c.vehicle_sheet.ensures
