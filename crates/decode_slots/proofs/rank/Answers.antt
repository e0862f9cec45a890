-- `decode_slots::rank`: the rank lies between `lo` and `hi`. Assumes nothing.
use mathlib.Core.Path.{◌≡◌}
use mathlib.Core.Bool.{true, false}
use Prim.Native.Nat.{◌<◌}
use native.Mathlib.Omega.{arith}
use lib.ListN.{get_or}
use Rattle.slices.specs.Lists.{lex_of}
use Rattle.maps.specs.Promises.Order.{is_more}
use Rattle.decode_slots.specs.Index.{slot_key}
use Rattle.decode_slots.specs.Promises.Index.{key_in}
use Rattle.decode_slots.proofs.Ranks.{rank_within, rank_more, rank_else, slot_below, gt_is_more}
use Rattle.decode_slots.proofs.rank.Goals as goal

pub loop-lo-init : goal.loop-lo-init
loop-lo-init c =
    let a = c.args in (
      omega arith,
      rank_within a.keys.now a.marks.now a.order.now a.n c.requires.sound_index
          (key_in a.keys.now a.n a.len),
      omega arith,
    )

pub word-slot-requires : goal.word-slot-requires
word-slot-requires c =
    omega (arith, c.probe-mid.ensures, c.requires.sound_index.ordered, c.requires.sound_index.counted)

pub key_order-requires : goal.key_order-requires
key_order-requires c =
    let S = c.requires.sound_index in
    let a = c.args in
    let mid = c.probe-mid.result in
    let in_range = c.probe-mid.ensures in
    let h = slot_below a.keys.now a.marks.now a.order.now a.n S mid (omega arith) in
    let j : c.word-slot.result < a.n = omega (arith, c.word-slot.ensures) in
    let l = S.lengths c.word-slot.result j in
    record {
      len_in_bounds = omega (arith, S.keyed);
      slot_in_bounds = omega (arith, S.marked);
      slot_in_bounds_2 = omega (arith, S.keyed);
    }

pub loop-lo-preserved-then-is_gt : goal.loop-lo-preserved-then-is_gt
loop-lo-preserved-then-is_gt c =
    let a = c.args in
    let k = key_in a.keys.now a.n a.len in
    let mid = c.probe-mid.result in
    let in_range = c.probe-mid.ensures in
    let g = gt_is_more c.key_order.result in
    let e : is_more (lex_of k (slot_key a.keys.now a.marks.now (get_or a.order.now mid 0))) ≡ true = cc in
    let h = rank_more a.keys.now a.marks.now a.order.now a.n c.requires.sound_index k mid (omega arith) e in
    (omega arith, omega arith, omega arith)

pub loop-lo-preserved : goal.loop-lo-preserved
loop-lo-preserved c =
    let a = c.args in
    let k = key_in a.keys.now a.n a.len in
    let mid = c.probe-mid.result in
    let in_range = c.probe-mid.ensures in
    let g = gt_is_more c.key_order.result in
    let e : is_more (lex_of k (slot_key a.keys.now a.marks.now (get_or a.order.now mid 0))) ≡ false = cc in
    let h = rank_else a.keys.now a.marks.now a.order.now a.n c.requires.sound_index k mid (omega arith) e in
    (omega arith, omega arith, omega arith)
