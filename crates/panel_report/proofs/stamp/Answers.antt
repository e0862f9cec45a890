-- `panel_report::stamp` meets its contract.
use borrow.Author.Rules.{rules}
use mathlib.Core.Path.{ap, ◌∙◌}
use mir.Facts.{to_z-of_z}
use mir.Syntax.{w64}
use mir.Val.{SFits}
use Rattle.formats.specs.Number.{zig}
use Rattle.panel_report.specs.Laws.Report.{stamp_absent, stamp_present}
use Rattle.panel_report.proofs.stamp.Goals as goal

pub returns-in-None : goal.returns-in-None
returns-in-None c = search stamp_absent

pub returns-in-Some : goal.returns-in-Some
returns-in-Some c =
    let f : SFits w64 c.in-Some.z = search rules in
    stamp_present c.in-Some.is c.byte-w1-in-Some.ensures (c.to_zigzag.ensures ∙ ap zig (to_z-of_z f))
    c.bits.ensures c.float-in-Some.ensures
