-- The cycle {group, skip}. The measure is the depth left, twice, and one more in `group`; the loop of `group` goes
-- by the bytes left.
-- The answers stand in the call of each member's `spec`, with no signature of their own. Assumes nothing.
use mathlib.Core.Path.{sym, ap, ◌∙◌}
use Rattle.wire.specs.Promises.Places.{past_number, past_text}
use Rattle.wire.specs.Laws.At.{field_less, key_read, key_broken, skipped_read, skipped_broken}
use Rattle.wire.proofs.Skip.{skip_0, skip_1, skip_2, skip_5, skip_else, skip_deep, skip_group, group_broken}
use Rattle.wire.proofs.Skip.{group_ends, group_other, group_inner, group_more}
use Rattle.wire.proofs.Cursor.+group_skip.Goals as goal

pub group-returns-in_err-n : goal.group-returns-in_err-n
group-returns-in_err-n t c =
    let a = c.args in
    let l = c.loop-n in
    let s = a.s.now in
    c.from_residual.ensures ∙ group_broken s a.self.at l.here.at a.number a.depth l.invariant
    (key_broken s l.here.at (sym c.in_err-n.was ∙ c.key.ensures))

pub group-returns-then-n-number : goal.group-returns-then-n-number
group-returns-then-n-number t c =
    let a = c.args in
    let l = c.loop-n in
    let s = a.s.now in
    let k = c.in_ok-n in
    let K = key_read s l.here.at k.n k.wire k.next (sym k.was ∙ c.key.ensures) in
    group_ends s a.self.at l.here.at a.number a.depth l.invariant k.n k.wire k.next.at K
    c.if-wire-eq-EGROUP.true c.if-n-number.true

pub group-returns-then-wire-eq-EGROUP : goal.group-returns-then-wire-eq-EGROUP
group-returns-then-wire-eq-EGROUP t c =
    let a = c.args in
    let l = c.loop-n in
    let s = a.s.now in
    let k = c.in_ok-n in
    let K = key_read s l.here.at k.n k.wire k.next (sym k.was ∙ c.key.ensures) in
    group_other s a.self.at l.here.at a.number a.depth l.invariant k.n k.wire k.next.at K
    c.if-wire-eq-EGROUP.true c.if-n-number.false

pub group-returns-in_err-here : goal.group-returns-in_err-here
group-returns-in_err-here t c =
    let a = c.args in
    let l = c.loop-n in
    let s = a.s.now in
    let k = c.in_ok-n in
    let K = key_read s l.here.at k.n k.wire k.next (sym k.was ∙ c.key.ensures) in
    c.from_residual-in_err-here.ensures
    ∙ group_inner s a.self.at l.here.at a.number a.depth l.invariant k.n k.wire k.next.at K c.if-wire-eq-EGROUP.false
    (skipped_broken s k.next.at k.n k.wire a.depth
    (sym c.in_err-here.was ∙ c.skip.ensures))

pub group-loop-n-smaller : goal.group-loop-n-smaller
group-loop-n-smaller t c =
    let a = c.args in
    let l = c.loop-n in
    let s = a.s.now in
    let k = c.in_ok-n in
    let K = key_read s l.here.at k.n k.wire k.next (sym k.was ∙ c.key.ensures) in
    let Q = skipped_read s k.next.at k.n k.wire a.depth c.in_ok-here.here
    (sym c.in_ok-here.was ∙ c.skip.ensures) in
    field_less s l.here.at a.depth _ k.next.at Q.0 c.in_ok-here.here.at K Q.1

pub group-loop-n-preserved : goal.group-loop-n-preserved
group-loop-n-preserved t c =
    let a = c.args in
    let l = c.loop-n in
    let s = a.s.now in
    let k = c.in_ok-n in
    let K = key_read s l.here.at k.n k.wire k.next (sym k.was ∙ c.key.ensures) in
    let Q = skipped_read s k.next.at k.n k.wire a.depth c.in_ok-here.here
    (sym c.in_ok-here.was ∙ c.skip.ensures) in
    group_more s a.self.at l.here.at a.number a.depth l.invariant k.n k.wire k.next.at K
    c.if-wire-eq-EGROUP.false Q.0 c.in_ok-here.here.at Q.1

pub skip-returns-then-depth-eq0 : goal.skip-returns-then-depth-eq0
skip-returns-then-depth-eq0 t c =
    let a = c.args in
    skip_deep a.s.now a.self.at a.number a.wire a.depth c.in-3.is c.if-depth-eq0.true

pub skip-returns-in-0 : goal.skip-returns-in-0
skip-returns-in-0 t c =
    let a = c.args in
    c.past_number.ensures ∙ ap past_number c.long_number.ensures
    ∙ skip_0 a.s.now a.self.at a.number a.wire a.depth c.in-0.is

pub skip-returns-in-1 : goal.skip-returns-in-1
skip-returns-in-1 t c =
    let a = c.args in
    c.past_text.ensures ∙ ap past_text c.bytes.ensures
    ∙ skip_1 a.s.now a.self.at a.number a.wire a.depth c.in-1.is

pub skip-returns-in-2 : goal.skip-returns-in-2
skip-returns-in-2 t c =
    let a = c.args in
    c.past_text-in-2.ensures ∙ ap past_text c.text.ensures
    ∙ skip_2 a.s.now a.self.at a.number a.wire a.depth c.in-2.is

pub skip-returns-else-depth-eq0 : goal.skip-returns-else-depth-eq0
skip-returns-else-depth-eq0 t c =
    let a = c.args in
    c.group.ensures ∙ skip_group a.s.now a.self.at a.number a.wire a.depth
    c.in-3.is c.if-depth-eq0.false

pub skip-returns-in-5 : goal.skip-returns-in-5
skip-returns-in-5 t c =
    let a = c.args in
    c.past_text-in-5.ensures ∙ ap past_text c.bytes-in-5.ensures
    ∙ skip_5 a.s.now a.self.at a.number a.wire a.depth c.in-5.is

pub skip-returns-in_default : goal.skip-returns-in_default
skip-returns-in_default t c = search skip_else
