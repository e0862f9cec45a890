-- `panel_sheets::alert_ending` meets its contract.
use mathlib.Core.List.{[]}
use mathlib.Core.Path.{refl, sym, ◌∙◌}
use lib.ListN.{length}
use borrow.Author.Rules.{rules}
use Rattle.overlay_open.specs.Laws.Held.{open_at, open_no}
use Rattle.panel.specs.Lengths.{sized}
use Rattle.panel_sheets.specs.Laws.Alerts.{alerts_unsized, alerts_closed, alerts_refused, alerts_accepted}
use Rattle.panel_sheets.proofs.alert_ending.Goals as goal

pub returns-then-not-same_lengths : goal.returns-then-not-same_lengths
returns-then-not-same_lengths c =
    let a = c.args in
    record {
      is = alerts_unsized (sized a.n) a.old.now a.feed.now a.sheet.now (length a.new.now) []
          (sym c.same_lengths.ensures ∙ c.if-not-same_lengths.true);
    }

pub returns-in_default : goal.returns-in_default
returns-in_default c =
    let a = c.args in
    record {
      is = alerts_closed (sized a.n) a.old.now a.feed.now a.sheet.now (length a.new.now) []
          (sym c.same_lengths.ensures ∙ c.if-not-same_lengths.false)
          (open_no a.old.now c.«open».ensures c.in_default.is);
    }

pub returns-then-number-ne0 : goal.returns-then-number-ne0
returns-then-number-ne0 c =
    let a = c.args in
    let O = open_at c.«open».ensures c.in-Some.is in
    record {
      is = alerts_refused (sized a.n) a.old.now a.feed.now a.sheet.now (length a.new.now) []
          (sym c.same_lengths.ensures ∙ c.if-not-same_lengths.false) c.alert_number-number.ensures O.is
          c.if-number-ne0.true;
    }

pub returns : goal.returns
returns c =
    let a = c.args in
    let O = open_at c.«open».ensures c.in-Some.is in
    record {
      is = alerts_accepted (sized a.n) a.old.now a.feed.now a.sheet.now (length a.new.now) []
          (sym c.same_lengths.ensures ∙ c.if-not-same_lengths.false) c.alert_number-number.ensures O.is
          c.if-number-ne0.false refl (λ vs I f. c.after_alerts-w.ensures O.state vs O.here O.valid I f)
          c.of_put.ensures;
    }
