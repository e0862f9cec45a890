-- `decode_updates::any_crowded`: the slots so far have no crowded record. Assumes nothing.
use mathlib.Core.Path.{refl}
use native.Mathlib.Omega.{arith}
use Rattle.decode_updates.proofs.Crowding.{seeking, seeks_none, slot_below, slot_readable}
use Rattle.decode_updates.proofs.Crowding.{seeks_found, seeks_on}
use Rattle.decode_updates.proofs.any_crowded.Goals as goal

pub loop-slot-init : goal.loop-slot-init
loop-slot-init c = seeking (omega (arith, c.requires.marks_len.1, c.requires.n_le_most_trips.0)) c.requires.all

pub overflow_mul-slot : goal.overflow_mul-slot
overflow_mul-slot c = omega (arith, slot_below c.loop-slot.invariant c.loop-slot-test.true refl)

pub overflow_add-slot : goal.overflow_add-slot
overflow_add-slot c = omega (arith, slot_below c.loop-slot.invariant c.loop-slot-test.true refl)

pub word-a-requires : goal.word-a-requires
word-a-requires c = omega
    (arith, slot_below c.loop-slot.invariant c.loop-slot-test.true refl, c.requires.marks_len.0)

pub overflow_mul-slot-in-loop-slot : goal.overflow_mul-slot-in-loop-slot
overflow_mul-slot-in-loop-slot c = omega (arith, slot_below c.loop-slot.invariant c.loop-slot-test.true refl)

pub overflow_add-slot-in-loop-slot : goal.overflow_add-slot-in-loop-slot
overflow_add-slot-in-loop-slot c = omega (arith, slot_below c.loop-slot.invariant c.loop-slot-test.true refl)

pub word-e-requires : goal.word-e-requires
word-e-requires c = omega
    (arith, slot_below c.loop-slot.invariant c.loop-slot-test.true refl, c.requires.marks_len.0)

pub place_crowded-requires-clause-message_len_bound : goal.place_crowded-requires-clause-message_len_bound
place_crowded-requires-clause-message_len_bound c = c.requires.n_le_most_trips.1

pub place_crowded-requires-clause-other_to_value : goal.place_crowded-requires-clause-other_to_value
place_crowded-requires-clause-other_to_value c = c.loop-slot.invariant.known

pub place_crowded-requires-clause-readable_new : goal.place_crowded-requires-clause-readable_new
place_crowded-requires-clause-readable_new c =
    slot_readable c.loop-slot.invariant c.loop-slot-test.true refl
    c.word-a.ensures c.word-e.ensures

pub returns-then-place_crowded : goal.returns-then-place_crowded
returns-then-place_crowded c = search seeks_found

pub loop-slot-preserved : goal.loop-slot-preserved
loop-slot-preserved c = search seeks_on

pub returns : goal.returns
returns c = search seeks_none
