-- `decode_keys::apply`: a deleted entity is passed over, another goes by its keys. Assumes nothing.
use Rattle.decode_keys.proofs.Applying.{short, applies_none, applies_trip}
use Rattle.decode_keys.proofs.apply.Goals as goal

pub returns-then-is_deleted : goal.returns-then-is_deleted
returns-then-is_deleted c =
    let a = c.args in
    applies_none a.feed.now c.requires.fact.sound c.requires.fact.few c.is_deleted.ensures
    c.if-is_deleted.true

pub file_trip-requires-clause-fact : goal.file_trip-requires-clause-fact
file_trip-requires-clause-fact c = c.requires.fact

pub file_trip-requires-clause-feed_len_bound : goal.file_trip-requires-clause-feed_len_bound
file_trip-requires-clause-feed_len_bound c = c.requires.feed_len_bound

pub file_trip-requires-clause-short : goal.file_trip-requires-clause-short
file_trip-requires-clause-short c = short c.trip_of-t.ensures c.requires.fine_entity

pub returns : goal.returns
returns c =
    let a = c.args in
    applies_trip a.feed.now c.is_deleted.ensures c.if-is_deleted.false
    c.trip_of-t.ensures c.file_trip.ensures
