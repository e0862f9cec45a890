-- `panel_card::card_ending` meets its contract.
use lib.ListN.{length}
use borrow.Author.Rules.{rules}
use mathlib.Core.Path.{refl}
use Rattle.panel_card.specs.Laws.Card.{lends, card_unsized, asked_no, card_begins, nothing_known, card_ends}
use Rattle.panel_card.proofs.card_ending.Goals as goal

pub returns-then-not-same_lengths : goal.returns-then-not-same_lengths
returns-then-not-same_lengths c = card_unsized c.same_lengths.ensures c.if-not-same_lengths.true

pub asked-number-requires : goal.asked-number-requires
asked-number-requires c =
    let a = c.args in
    let L =
    lends a.n a.old.now (length a.out.now) a.candidates.now a.met.now a.noted.now a.known.now
    c.same_lengths.ensures c.if-not-same_lengths.false c.requires in
    (L.alerts.small, L.noted)

pub returns-then-number-ne0 : goal.returns-then-number-ne0
returns-then-number-ne0 c =
    asked_no c.same_lengths.ensures c.if-not-same_lengths.false c.asked-number.ensures.value c.if-number-ne0.true

pub finish-w-requires-clause-noted : goal.finish-w-requires-clause-noted
finish-w-requires-clause-noted c = c.asked-number.ensures.asked_notes.is c.if-number-ne0.false

pub finish-w-requires-clause-lent : goal.finish-w-requires-clause-lent
finish-w-requires-clause-lent c =
    let a = c.args in
    let L =
    lends a.n a.old.now (length a.out.now) a.candidates.now a.met.now a.noted.now a.known.now
    c.same_lengths.ensures c.if-not-same_lengths.false c.requires in
    L.alerts

pub finish-w-requires-clause-card_nonzero : goal.finish-w-requires-clause-card_nonzero
finish-w-requires-clause-card_nonzero c =
    let a = c.args in (
      card_begins a.old.now a.card.now c.asked-number.ensures.value c.if-number-ne0.false,
      nothing_known a.known.now c.fill.ensures,
    )

pub returns : goal.returns
returns c =
    card_ends c.same_lengths.ensures c.if-not-same_lengths.false c.asked-number.ensures.value c.if-number-ne0.false refl
    c.finish-w.ensures c.ended.ensures
