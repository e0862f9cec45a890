-- `decode_trips::put_entries`: the entries of the slots behind it are written, and the last record stands there.
use Prim.Native.Nat.{◌<◌}
use Rattle.std.proofs.Common.{length-take-le}
use Rattle.std.proofs.lemmas.List.{get_or-take}
use native.Mathlib.Omega.{arith}
use Rattle.decode_write.specs.Promises.Slots.{GoodSlot}
use Rattle.decode_write.specs.Laws.Groups.{was_full}
use Rattle.decode_write.specs.Laws.Slots.{no_entries, entries_more, entries_done, taken_at}
use Rattle.decode_trips.specs.Laws.Again.{ready_none, too_far}
use Rattle.decode_trips.proofs.put_entries.Goals as goal

pub returns-in_err-at : goal.returns-in_err-at
returns-in_err-at c = rw c.from_residual.ensures (was_full {l = c.args.out.now} {w = c.args.w} _ c.in_err-at.was)

pub returns-then-out-at : goal.returns-then-out-at
returns-then-out-at c = too_far _ c.in_ok-at.was c.if-out-at.true

pub loop-slot-init : goal.loop-slot-init
loop-slot-init c = (
  no_entries c.args.message.now c.args.old.now c.args.keys.now
      c.args.marks.now c.args.order.now,
  ready_none c.in_ok-at.was c.if-out-at.false,
)

pub write_entry-entered-requires : goal.write_entry-entered-requires
write_entry-entered-requires c =
    let l = length-take-le c.args.n c.args.order.now c.requires.n_in_bounds in
    let i : c.loop-slot.slot-index < c.args.n = omega arith in
    record {
      message_len_bound = c.requires.message_len_bound;
      good_slot = taken_at (GoodSlot c.args.message.now c.args.old.now c.args.keys.now c.args.marks.now)
          c.args.n c.args.order.now c.requires.all c.loop-slot.slot-index i c.requires.n_in_bounds
          (get_or-take c.args.n c.args.order.now c.loop-slot.slot-index 0 i);
      ready = c.loop-slot.invariant.1;
    }

pub loop-slot-preserved : goal.loop-slot-preserved
loop-slot-preserved c =
    let l = length-take-le c.args.n c.args.order.now c.requires.n_in_bounds in
    let i : c.loop-slot.slot-index < c.args.n = omega arith in (
      entries_more c.args.message.now c.args.old.now c.args.keys.now
          c.args.marks.now c.args.order.now c.loop-slot.slot-index (omega (arith, c.requires.n_in_bounds))
          (get_or-take c.args.n c.args.order.now c.loop-slot.slot-index 0 i)
          c.loop-slot.invariant.0 c.write_entry-entered.ensures.adds,
      c.write_entry-entered.ensures.ready,
    )

pub returns : goal.returns
returns c =
    let l = length-take-le c.args.n c.args.order.now c.requires.n_in_bounds in
    entries_done c.args.message.now c.args.old.now c.args.keys.now
    c.args.marks.now c.args.order.now (omega arith) (omega arith) c.loop-slot.invariant.0
