-- `vehicle_number` meets its contract.
use mathlib.Core.Path.{sym, ◌∙◌}
use borrow.Author.Rules.{rules}
use Rattle.panel_questions.specs.Laws.Vehicles.{vehicles_long, vehicles_broken, vehicles_cut}
use Rattle.panel_questions.specs.Laws.Vehicles.{vehicles_fall, vehicles_judged, vehicles_nowhere}
use Rattle.panel_questions.proofs.vehicle_number.Goals as goal

pub returns-then-sheet-gt1048576 : goal.returns-then-sheet-gt1048576
returns-then-sheet-gt1048576 c =
    let a = c.args in
    vehicles_long a.feed.now a.sheet.now a.clock c.if-sheet-gt1048576.true

pub returns-in_default : goal.returns-in_default
returns-in_default c =
    let a = c.args in
    vehicles_broken a.feed.now a.sheet.now a.clock c.if-sheet-gt1048576.false c.judge_vehicles.ensures
    c.in_default.is

pub returns-then-p-sheet : goal.returns-then-p-sheet
returns-then-p-sheet c =
    let a = c.args in
    vehicles_cut a.feed.now a.sheet.now a.clock c.if-sheet-gt1048576.false c.judge_vehicles.ensures
    c.in-Some.is c.if-p-sheet.true

pub returns-then-feed_ok : goal.returns-then-feed_ok
returns-then-feed_ok c =
    let a = c.args in
    vehicles_judged a.feed.now a.sheet.now a.clock c.if-sheet-gt1048576.false c.judge_vehicles.ensures
    c.in-Some.is c.if-p-sheet.false c.keys_ascend.ensures c.if-keys_ascend.true
    (sym c.feed_ok.ensures ∙ c.if-feed_ok.true) c.timed.ensures

pub returns-then-keys_ascend : goal.returns-then-keys_ascend
returns-then-keys_ascend c =
    let a = c.args in
    vehicles_nowhere a.feed.now a.sheet.now a.clock c.if-sheet-gt1048576.false c.judge_vehicles.ensures
    c.in-Some.is c.if-p-sheet.false c.keys_ascend.ensures c.if-keys_ascend.true
    (sym c.feed_ok.ensures ∙ c.if-feed_ok.false)

pub returns : goal.returns
returns c =
    let a = c.args in
    vehicles_fall a.feed.now a.sheet.now a.clock c.if-sheet-gt1048576.false c.judge_vehicles.ensures
    c.in-Some.is c.if-p-sheet.false c.keys_ascend.ensures c.if-keys_ascend.false
