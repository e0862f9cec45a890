-- `decode_slots::settle`: over the place of the key's slot, or into the next slot. Assumes nothing.
use native.Mathlib.Omega.{arith}
use Rattle.decode_slots.specs.Promises.Index.{key_in}
use Rattle.decode_slots.proofs.Ranks.{slot_below, rank_within}
use Rattle.decode_slots.proofs.Settling.{stood, settles_over, settles_into}
use Rattle.decode_slots.proofs.settle.Goals as goal

pub word-slot-requires : goal.word-slot-requires
word-slot-requires c =
    let a = c.args in
    let S = c.requires.sound_index in
    let h = (stood a.keys.now a.marks.now a.order.now a.n a.len a.from a.to S
    c.rank-r.result c.stands.result c.rank-r.ensures c.stands.ensures
    c.if-stands.true).0 in
    omega (arith, c.rank-r.ensures, S.ordered, S.counted)

pub mark-requires : goal.mark-requires
mark-requires c =
    let a = c.args in
    let S = c.requires.sound_index in
    let h = (stood a.keys.now a.marks.now a.order.now a.n a.len a.from a.to S
    c.rank-r.result c.stands.result c.rank-r.ensures c.stands.ensures
    c.if-stands.true).0 in
    let b = slot_below a.keys.now a.marks.now a.order.now a.n S c.rank-r.result
    (omega (arith, c.rank-r.ensures)) in
    omega (arith, c.word-slot.ensures, S.marked, S.counted)

pub returns-then-stands : goal.returns-then-stands
returns-then-stands c =
    let a = c.args in
    settles_over a.keys.now a.marks.now a.order.now a.n a.len a.from a.to c.requires.sound_index
    c.rank-r.result c.stands.result c.rank-r.ensures c.stands.ensures
    c.word-slot.result c.mark.new.marks c.if-stands.true c.word-slot.ensures
    c.mark.ensures

pub enter-requires : goal.enter-requires
enter-requires c =
    let a = c.args in
    let S = c.requires.sound_index in
    let w = rank_within a.keys.now a.marks.now a.order.now a.n S
    (key_in a.keys.now a.n a.len) in
    record {
      n_le_most_trips = (
        omega (arith, c.requires.n_le_most_trips),
        omega (arith, c.rank-r.ensures),
        omega (arith, c.requires.n_le_most_trips),
      );
      marks_len = (S.marked, S.ordered);
    }

pub returns : goal.returns
returns c =
    let a = c.args in
    settles_into a.keys.now a.marks.now a.order.now a.n a.len a.from a.to c.requires.sound_index
    c.rank-r.result c.stands.result c.rank-r.ensures c.stands.ensures
    c.enter.new.marks c.enter.new.order c.requires.n_le_most_trips.0 c.requires.n_le_most_trips.1
    c.if-stands.false c.enter.ensures.marks_after c.enter.ensures.order_after
