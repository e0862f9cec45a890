-- `realtime_views::seek` meets its contract. The invariant: the messages at the field that were there are there still.
-- Assumes nothing.
use Rattle.realtime_views.proofs.Seeking.{seek_ends, seek_keyless, seek_broken, seek_past}
use Rattle.realtime_views.proofs.Seeking.{seek_cut, seek_other, seek_found}
use Rattle.realtime_views.proofs.Wires.{text_less, other_less}
use mathlib.Core.Path.{sym}
use Rattle.realtime_views.specs.Laws.Seeks.{seek_is}
use Rattle.realtime_views.proofs.seek.Goals as goal

pub returns-in_err-field : goal.returns-in_err-field
returns-in_err-field c =
    let l = c.loop-at in
    seek_is (seek_keyless l.invariant c.loop-at-test.true c.key.ensures c.in_err-field.was)
    (sym c.from_residual.ensures)

pub returns-in_err-start : goal.returns-in_err-start
returns-in_err-start c =
    let l = c.loop-at in
    seek_is (seek_cut l.invariant c.loop-at-test.true c.key.ensures c.in_ok-field.was c.if-wire-eq-LEN.true
    c.text.ensures c.in_err-start.was) (sym c.from_residual-in_err-start.ensures)

pub returns-then-field-k : goal.returns-then-field-k
returns-then-field-k c = search (seek_found, c.in_ok-field.was, c.in_ok-start.was)

pub loop-at-smaller-then-wire-eq-LEN : goal.loop-at-smaller-then-wire-eq-LEN
loop-at-smaller-then-wire-eq-LEN c = search (text_less, c.in_ok-field.was, c.in_ok-start.was)

pub loop-at-preserved-then-wire-eq-LEN : goal.loop-at-preserved-then-wire-eq-LEN
loop-at-preserved-then-wire-eq-LEN c = search (seek_other, c.in_ok-field.was, c.in_ok-start.was)

pub returns-in_err-at : goal.returns-in_err-at
returns-in_err-at c =
    let l = c.loop-at in
    seek_is (seek_broken l.invariant c.loop-at-test.true c.key.ensures c.in_ok-field.was c.past.ensures
    c.in_err-at.was) (sym c.from_residual-in_err-at.ensures)

pub loop-at-smaller : goal.loop-at-smaller
loop-at-smaller c = search (other_less, c.in_ok-field.was, c.in_ok-at.was)

pub loop-at-preserved : goal.loop-at-preserved
loop-at-preserved c = search (seek_past, c.in_ok-field.was, c.in_ok-at.was)

pub returns : goal.returns
returns c = search seek_ends
