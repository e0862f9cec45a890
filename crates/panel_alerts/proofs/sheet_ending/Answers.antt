-- `panel_alerts::sheet_ending` meets its contract.
use borrow.Author.Rules.{rules}
use mathlib.Core.Path.{refl, sym, ◌∙◌}
use Rattle.panel_alerts.specs.Laws.Alerts.{passed, short, sheetable, sheet_unsized, asked_no, too_many}
use Rattle.panel_alerts.specs.Laws.Alerts.{sheet_ends}
use Rattle.panel_alerts.proofs.sheet_ending.Goals as goal

pub returns-then-out-ne-SHEET : goal.returns-then-out-ne-SHEET
returns-then-out-ne-SHEET c = sheet_unsized c.if-out-ne-SHEET.true

pub returns-then-number-ne0 : goal.returns-then-number-ne0
returns-then-number-ne0 c =
    asked_no c.if-out-ne-SHEET.false c.alerts_number-number.ensures c.if-number-ne0.true

pub returns-then-kept-gt-MOST_ALERTS : goal.returns-then-kept-gt-MOST_ALERTS
returns-then-kept-gt-MOST_ALERTS c =
    let a = c.args in
    let P = passed a.feed.now a.message.now (sym c.if-number-ne0.false ∙ c.alerts_number-number.ensures) in
    too_many c.if-out-ne-SHEET.false P c.kept-kept.ensures c.if-kept-gt-MOST_ALERTS.true

pub write_sheet-w-requires-clause-short : goal.write_sheet-w-requires-clause-short
write_sheet-w-requires-clause-short c =
    let a = c.args in
    let P = passed a.feed.now a.message.now (sym c.if-number-ne0.false ∙ c.alerts_number-number.ensures) in
    short P

pub write_sheet-w-requires-clause-sheetable : goal.write_sheet-w-requires-clause-sheetable
write_sheet-w-requires-clause-sheetable c =
    let a = c.args in
    let P = passed a.feed.now a.message.now (sym c.if-number-ne0.false ∙ c.alerts_number-number.ensures) in
    sheetable P c.kept-kept.ensures c.if-kept-gt-MOST_ALERTS.false

pub returns : goal.returns
returns c =
    let a = c.args in
    let P = passed a.feed.now a.message.now (sym c.if-number-ne0.false ∙ c.alerts_number-number.ensures) in
    sheet_ends c.if-out-ne-SHEET.false P c.kept-kept.ensures c.if-kept-gt-MOST_ALERTS.false refl c.write_sheet-w.ensures
    c.ended.ensures
