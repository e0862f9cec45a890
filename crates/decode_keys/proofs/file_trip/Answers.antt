-- `decode_keys::file_trip`: no key, one key, or the dated one and then its base. Assumes nothing.
use mathlib.Core.Path.{refl}
use native.Mathlib.Omega.{arith}
use Rattle.decode_keys.proofs.Filing.{still, filed}
use Rattle.decode_keys.proofs.Filing.{enters_none, enters_incomplete, enters_base, enters_over, enters_dated}
use Rattle.decode_keys.proofs.file_trip.Goals as goal

pub returns-then-t-eq0-2 : goal.returns-then-t-eq0-2
returns-then-t-eq0-2 c =
    let a = c.args in
    enters_none a.feed.now a.message.now a.t c.requires.short a.from a.to c.requires.fact.sound
    c.requires.fact.few c.if-t-eq0.true c.if-t-eq0-2.true

pub write_incomplete-len-requires : goal.write_incomplete-len-requires
write_incomplete-len-requires c = record {
  room = record { counted = c.requires.fact.few; keyed = c.requires.fact.sound.keyed };
  feed_len_bound = c.requires.feed_len_bound;
  short = c.requires.short;
}

pub settle-requires : goal.settle-requires
settle-requires c = record {
  sound_index = still c.requires.fact.sound c.requires.fact.few c.write_incomplete-len.ensures;
  n_le_most_trips = (c.requires.fact.few, c.write_incomplete-len.ensures.short);
}

pub returns-then-t-eq0 : goal.returns-then-t-eq0
returns-then-t-eq0 c =
    let a = c.args in
    enters_incomplete a.feed.now a.message.now a.t c.requires.short
    (filed c.requires.fact.sound c.requires.fact.few c.write_incomplete-len.ensures c.settle.ensures)
    refl c.if-t-eq0.true c.if-t-eq0-2.false

pub file_key-requires : goal.file_key-requires
file_key-requires c = record {
  fact = c.requires.fact;
  len_in_bounds = (c.requires.short.id.0, omega (arith, c.requires.short.id.1));
}

pub returns-then-t-eq0-3 : goal.returns-then-t-eq0-3
returns-then-t-eq0-3 c =
    let a = c.args in
    enters_base a.feed.now a.message.now a.t c.requires.short c.file_key.ensures refl
    c.if-t-eq0.false c.if-t-eq0-3.true

pub write_dated-len-requires : goal.write_dated-len-requires
write_dated-len-requires c = record {
  room = record { counted = c.requires.fact.few; keyed = c.requires.fact.sound.keyed };
  short = c.requires.short;
}

pub settle-m-requires : goal.settle-m-requires
settle-m-requires c = record {
  sound_index = still c.requires.fact.sound c.requires.fact.few c.write_dated-len.ensures;
  n_le_most_trips = (c.requires.fact.few, c.write_dated-len.ensures.short);
}

pub returns-then-m-gt-MOST_TRIPS : goal.returns-then-m-gt-MOST_TRIPS
returns-then-m-gt-MOST_TRIPS c =
    let a = c.args in
    let D = filed c.requires.fact.sound c.requires.fact.few c.write_dated-len.ensures c.settle-m.ensures in
    enters_over a.feed.now a.message.now a.t c.requires.short D refl
    c.if-t-eq0.false c.if-t-eq0-3.false c.if-m-gt-MOST_TRIPS.true

pub file_key-requires-2 : goal.file_key-requires-2
file_key-requires-2 c = record {
  fact = record { sound = c.settle-m.ensures.sound; few = c.if-m-gt-MOST_TRIPS.false };
  len_in_bounds = (c.requires.short.id.0, omega (arith, c.requires.short.id.1));
}

pub returns : goal.returns
returns c =
    let a = c.args in
    let D = filed c.requires.fact.sound c.requires.fact.few c.write_dated-len.ensures c.settle-m.ensures in
    enters_dated a.feed.now a.message.now a.t c.requires.short D refl
    c.if-t-eq0.false c.if-t-eq0-3.false c.file_key-2.ensures
