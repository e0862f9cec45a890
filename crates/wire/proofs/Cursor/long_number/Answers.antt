-- `Cursor::long_number` meets its contract: what is read behind the bytes passed stands at `scale`. Assumes nothing.
use native.Mathlib.Omega.{arith}
use Prim.Native.Nat.{◌%◌}
use Rattle.wire.proofs.Number.{reading_start, reading_more, number_ends, number_breaks, number_none}
use Rattle.wire.proofs.Number.{digits_last, digits_over, digits_low, room_more, scaled}
use Rattle.wire.proofs.Cursor.long_number.Goals as goal

pub loop-at-init : goal.loop-at-init
loop-at-init c = reading_start _ _

pub returns-then-b-le1 : goal.returns-then-b-le1
returns-then-b-le1 c =
    let l = c.loop-at in
    let w = c.from-b in
    number_ends _ _ l.at l.value l.scale l.more w.result l.invariant w.ensures
    c.loop-at-test.true
    (digits_last l.more w.result _ c.if-more-eq0.true c.if-b-le1.true)

pub returns-then-more-eq0 : goal.returns-then-more-eq0
returns-then-more-eq0 c =
    let l = c.loop-at in
    let w = c.from-b in
    number_breaks _ _ l.at l.value l.scale l.more w.result l.invariant w.ensures
    c.loop-at-test.true
    (digits_over l.more w.result _ c.if-more-eq0.true c.if-b-le1.false)

pub overflow_mul-result-then-b-lt128 : goal.overflow_mul-result-then-b-lt128
overflow_mul-result-then-b-lt128 c =
    let l = c.loop-at in
    let w = c.from-b in
    omega (
      arith,
      room_more l.scale l.more c.if-more-eq0.false l.invariant.room,
      scaled w.result 127 l.scale (omega arith),
    )

pub overflow_add-result-then-b-lt128 : goal.overflow_add-result-then-b-lt128
overflow_add-result-then-b-lt128 c =
    let l = c.loop-at in
    let w = c.from-b in
    omega (
      arith,
      l.invariant.small,
      room_more l.scale l.more c.if-more-eq0.false l.invariant.room,
      scaled w.result 127 l.scale (omega arith),
    )

pub returns-then-b-lt128 : goal.returns-then-b-lt128
returns-then-b-lt128 c =
    let l = c.loop-at in
    let w = c.from-b in
    number_ends _ _ l.at l.value l.scale l.more w.result l.invariant w.ensures
    c.loop-at-test.true
    (digits_low l.more w.result _ c.if-more-eq0.false c.if-b-lt128.true)

pub overflow_mul-value : goal.overflow_mul-value
overflow_mul-value c =
    let l = c.loop-at in
    let w = c.from-b in
    omega (
      arith,
      room_more l.scale l.more c.if-more-eq0.false l.invariant.room,
      scaled (w.result % 128) 127 l.scale (omega arith),
    )

pub overflow_add-value : goal.overflow_add-value
overflow_add-value c =
    let l = c.loop-at in
    let w = c.from-b in
    omega (
      arith,
      l.invariant.small,
      room_more l.scale l.more c.if-more-eq0.false l.invariant.room,
      scaled (w.result % 128) 127 l.scale (omega arith),
    )

pub overflow_mul-scale : goal.overflow_mul-scale
overflow_mul-scale c =
    let l = c.loop-at in
    omega (arith, room_more l.scale l.more c.if-more-eq0.false l.invariant.room)

pub loop-at-preserved : goal.loop-at-preserved
loop-at-preserved c =
    let l = c.loop-at in
    let w = c.from-b in
    reading_more _ _ l.at l.value l.scale l.more w.result l.invariant w.ensures
    c.loop-at-test.true c.if-more-eq0.false c.if-b-lt128.false

pub returns : goal.returns
returns c =
    let l = c.loop-at in
    number_none _ _ l.at l.value l.scale l.more l.invariant c.loop-at-test.false
