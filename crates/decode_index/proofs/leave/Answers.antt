-- `decode_index::leave`: the index is what the message leaves. Assumes nothing.
use native.Mathlib.Omega.{arith}
use Rattle.decode_index.proofs.Leaves.{leaves_many, readable_slots, leaves_crowded, leaves_trips}
use Rattle.decode_index.proofs.leave.Goals as goal

pub returns-then-m-gt-MOST_TRIPS : goal.returns-then-m-gt-MOST_TRIPS
returns-then-m-gt-MOST_TRIPS c =
    leaves_many c.requires.judged_message c.requires.old c.header_of-h.ensures c.begin-begun.ensures
    c.apply_entities-m.ensures c.if-m-gt-MOST_TRIPS.true

pub any_crowded-requires-clause-marks_len : goal.any_crowded-requires-clause-marks_len
any_crowded-requires-clause-marks_len c =
    let I = c.apply_entities-m.ensures in
    (I.sound.marked, I.sound.ordered)

pub any_crowded-requires-clause-n_le_most_trips : goal.any_crowded-requires-clause-n_le_most_trips
any_crowded-requires-clause-n_le_most_trips c =
    let I = c.apply_entities-m.ensures in
    (omega (arith, c.if-m-gt-MOST_TRIPS.false), c.requires.feed_len_bound.1)

pub any_crowded-requires-clause-all : goal.any_crowded-requires-clause-all
any_crowded-requires-clause-all c =
    let I = c.apply_entities-m.ensures in
    readable_slots c.requires.judged_message c.requires.old
    c.header_of-h.ensures c.begin-begun.ensures I (omega (arith, c.if-m-gt-MOST_TRIPS.false))

pub returns-then-any_crowded : goal.returns-then-any_crowded
returns-then-any_crowded c =
    leaves_crowded c.requires.judged_message c.requires.old c.header_of-h.ensures c.begin-begun.ensures
    c.apply_entities-m.ensures (omega (arith, c.if-m-gt-MOST_TRIPS.false))
    c.any_crowded.ensures c.if-any_crowded.true

pub returns : goal.returns
returns c =
    leaves_trips c.requires.judged_message c.requires.old c.header_of-h.ensures c.begin-begun.ensures
    c.apply_entities-m.ensures (omega (arith, c.if-m-gt-MOST_TRIPS.false))
    c.any_crowded.ensures c.if-any_crowded.false
