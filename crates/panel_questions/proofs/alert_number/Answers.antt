-- `alert_number` meets its contract.
use mathlib.Core.Path.{sym, ◌∙◌}
use borrow.Author.Rules.{rules}
use Rattle.panel_questions.specs.Laws.Whole.{alerts_long, alerts_broken, alerts_cut}
use Rattle.panel_questions.specs.Laws.Whole.{alerts_judged, alerts_nowhere}
use Rattle.panel_questions.proofs.alert_number.Goals as goal

pub returns-then-sheet-gt1048576 : goal.returns-then-sheet-gt1048576
returns-then-sheet-gt1048576 c =
    let args = c.args in
    alerts_long args.feed.now args.sheet.now c.if-sheet-gt1048576.true

pub returns-in_default : goal.returns-in_default
returns-in_default c =
    let args = c.args in
    alerts_broken args.feed.now args.sheet.now c.if-sheet-gt1048576.false c.judge_alerts.ensures
    c.in_default.is

pub returns-then-p-sheet : goal.returns-then-p-sheet
returns-then-p-sheet c =
    let args = c.args in
    alerts_cut args.feed.now args.sheet.now c.if-sheet-gt1048576.false c.judge_alerts.ensures c.in-Some.is
    c.if-p-sheet.true

pub returns-then-feed_ok : goal.returns-then-feed_ok
returns-then-feed_ok c =
    let args = c.args in
    alerts_judged args.feed.now args.sheet.now c.if-sheet-gt1048576.false c.judge_alerts.ensures
    c.in-Some.is c.if-p-sheet.false (sym c.feed_ok.ensures ∙ c.if-feed_ok.true)

pub returns : goal.returns
returns c =
    let args = c.args in
    alerts_nowhere args.feed.now args.sheet.now c.if-sheet-gt1048576.false c.judge_alerts.ensures
    c.in-Some.is c.if-p-sheet.false (sym c.feed_ok.ensures ∙ c.if-feed_ok.false)
