-- `panel_sheets::vehicle_ending` meets its contract.
use mathlib.Core.List.{[]}
use mathlib.Core.Path.{refl, sym, ◌∙◌}
use lib.ListN.{length}
use borrow.Author.Rules.{rules}
use Rattle.overlay_open.specs.Laws.Held.{open_at, open_no}
use Rattle.panel.specs.Lengths.{sized}
use Rattle.panel_sheets.specs.Laws.Vehicles.{vehicles_unsized, vehicles_closed}
use Rattle.panel_sheets.specs.Laws.Vehicles.{vehicles_refused, vehicles_accepted}
use Rattle.panel_sheets.proofs.vehicle_ending.Goals as goal

pub returns-then-not-same_lengths : goal.returns-then-not-same_lengths
returns-then-not-same_lengths c =
    λ t T.
    let a = c.args in
    record {
      is = vehicles_unsized (sized a.n) a.old.now a.feed.now a.sheet.now t (length a.new.now) []
          (sym c.same_lengths.ensures ∙ c.if-not-same_lengths.true);
    }

pub returns-in_default : goal.returns-in_default
returns-in_default c =
    λ t T.
    let a = c.args in
    record {
      is = vehicles_closed (sized a.n) a.old.now a.feed.now a.sheet.now t (length a.new.now) []
          (sym c.same_lengths.ensures ∙ c.if-not-same_lengths.false)
          (open_no a.old.now c.«open».ensures c.in_default.is);
    }

pub returns-then-number-ne0 : goal.returns-then-number-ne0
returns-then-number-ne0 c =
    λ t T.
    let a = c.args in
    let O = open_at c.«open».ensures c.in-Some.is in
    record {
      is = vehicles_refused (sized a.n) a.old.now a.feed.now a.sheet.now t (length a.new.now) []
          (sym c.same_lengths.ensures ∙ c.if-not-same_lengths.false) T c.vehicle_number-number.ensures O.is
          c.if-number-ne0.true;
    }

pub returns : goal.returns
returns c =
    λ t T.
    let a = c.args in
    let O = open_at c.«open».ensures c.in-Some.is in
    record {
      is = vehicles_accepted (sized a.n) a.old.now a.feed.now a.sheet.now t (length a.new.now) []
          (sym c.same_lengths.ensures ∙ c.if-not-same_lengths.false) T c.vehicle_number-number.ensures O.is
          c.if-number-ne0.false refl (λ xs z I. c.after_vehicles-w.ensures O.state xs t O.here O.valid z I)
          c.of_put.ensures;
    }
