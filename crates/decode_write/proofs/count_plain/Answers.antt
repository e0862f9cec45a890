-- `decode_write::count_plain`: the keys of the slots behind it are counted. Assumes nothing.
use mathlib.Core.Path.{◌∙◌}
use native.Mathlib.Omega.{arith}
use Prim.Native.Nat.{◌<◌}
use Rattle.std.proofs.Common.{length-take-le}
use Rattle.std.proofs.lemmas.List.{get_or-take}
use Rattle.decode_write.specs.Promises.Slots.{KeyLies}
use Rattle.decode_write.specs.Laws.Slots.{taken_at}
use Rattle.decode_write.specs.Laws.Counts.{plain_none, plain_done, plain_counted, plain_passed}
use Rattle.decode_write.proofs.count_plain.Goals as goal
use Rattle.decode_write.proofs.count_plain.Goals.{then-not-key_has_at, else-not-key_has_at}

pub loop-slot-init : goal.loop-slot-init
loop-slot-init c = (omega arith, plain_none c.args.keys.now c.args.marks.now c.args.order.now)

pub overflow_add-count : goal.overflow_add-count
overflow_add-count c =
    let l = length-take-le c.args.n c.args.order.now c.requires.n_in_bounds in
    omega (arith, c.ranges.n.fits)

pub key_has_at-requires : goal.key_has_at-requires
key_has_at-requires c =
    let l = length-take-le c.args.n c.args.order.now c.requires.n_in_bounds in
    taken_at (KeyLies c.args.keys.now c.args.marks.now) c.args.n c.args.order.now
    c.requires.all c.loop-slot.slot-index (omega arith) c.requires.n_in_bounds
    (get_or-take c.args.n c.args.order.now c.loop-slot.slot-index 0 (omega arith))

pub loop-slot-preserved : goal.loop-slot-preserved
loop-slot-preserved c =
    let l = length-take-le c.args.n c.args.order.now c.requires.n_in_bounds in
    let i : c.loop-slot.slot-index < c.args.n = omega arith in
    let e = get_or-take c.args.n c.args.order.now c.loop-slot.slot-index 0 i in
    elim c.if-not-key_has_at.branch [
      | then-not-key_has_at w ↦ (
        omega arith,
        w.count-is ∙ plain_counted c.args.keys.now c.args.marks.now c.args.order.now c.loop-slot.slot-index
            (omega arith) c.loop-slot.invariant.1 e c.key_has_at.ensures w.if-not-key_has_at.true,
      )
      | else-not-key_has_at w ↦ (
        omega arith,
        w.count-is ∙ plain_passed c.args.keys.now c.args.marks.now c.args.order.now c.loop-slot.slot-index
            (omega arith) c.loop-slot.invariant.1 e c.key_has_at.ensures w.if-not-key_has_at.false,
      )
    ]

pub returns : goal.returns
returns c =
    let l = length-take-le c.args.n c.args.order.now c.requires.n_in_bounds in
    plain_done c.args.keys.now c.args.marks.now c.args.order.now c.loop-slot.invariant.1 (omega arith) (omega arith)
