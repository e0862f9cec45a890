-- `decode_index::apply_entities`: with what is left, the index gives that of the whole message. The measure: the bytes
-- behind the walk. Assumes nothing.
use mathlib.Core.Path.{sym, ◌∙◌}
use native.Mathlib.Omega.{arith}
use Rattle.realtime_views.specs.Laws.Walks.{found}
use Rattle.decode_index.proofs.Entities.{starts, done, entity_inside, entity_read, on, over}
use Rattle.decode_index.proofs.apply_entities.Goals as goal

pub loop-at-init : goal.loop-at-init
loop-at-init c =
    starts c.args.feed.now c.requires.fact.sound c.requires.fact.few c.requires.judged_message
    c.entities-walk.ensures

pub next_entity-requires : goal.next_entity-requires
next_entity-requires c = c.loop-at.invariant.walk

pub returns : goal.returns
returns c = done c.loop-at.invariant c.next_entity.ensures c.in_default.is

pub apply-m-requires-clause-fact : goal.apply-m-requires-clause-fact
apply-m-requires-clause-fact c =
    let I = c.loop-at.invariant in
    record { sound = I.sound; few = I.few }

pub apply-m-requires-clause-feed_len_bound : goal.apply-m-requires-clause-feed_len_bound
apply-m-requires-clause-feed_len_bound c =
    let P = c.requires.feed_len_bound in
    P.0

pub apply-m-requires-clause-len_in_bounds : goal.apply-m-requires-clause-len_in_bounds
apply-m-requires-clause-len_in_bounds c =
    let I = c.loop-at.invariant in
    let P = c.requires.feed_len_bound in
    let Y = c.next_entity.ensures in
    (entity_inside I Y c.in-At.is P.1, P.1)

pub apply-m-requires-clause-fine_entity : goal.apply-m-requires-clause-fine_entity
apply-m-requires-clause-fine_entity c =
    let I = c.loop-at.invariant in
    let P = c.requires.feed_len_bound in
    let Y = c.next_entity.ensures in
    entity_read I Y c.in-At.is P.1

pub shape_of-keys-then-m-gt-MOST_TRIPS : goal.shape_of-keys-then-m-gt-MOST_TRIPS
shape_of-keys-then-m-gt-MOST_TRIPS c = c.apply-m.ensures.sound.keyed ∙ sym c.requires.fact.sound.keyed

pub shape_of-marks-then-m-gt-MOST_TRIPS : goal.shape_of-marks-then-m-gt-MOST_TRIPS
shape_of-marks-then-m-gt-MOST_TRIPS c = c.apply-m.ensures.sound.marked ∙ sym c.requires.fact.sound.marked

pub shape_of-order-then-m-gt-MOST_TRIPS : goal.shape_of-order-then-m-gt-MOST_TRIPS
shape_of-order-then-m-gt-MOST_TRIPS c = c.apply-m.ensures.sound.ordered ∙ sym c.requires.fact.sound.ordered

pub returns-then-m-gt-MOST_TRIPS : goal.returns-then-m-gt-MOST_TRIPS
returns-then-m-gt-MOST_TRIPS c =
    over c.loop-at.invariant c.next_entity.ensures c.in-At.is c.requires.feed_len_bound.1
    c.apply-m.ensures c.if-m-gt-MOST_TRIPS.true

pub loop-at-smaller : goal.loop-at-smaller
loop-at-smaller c = (found c.next_entity.ensures c.in-At.is).less

pub loop-at-preserved : goal.loop-at-preserved
loop-at-preserved c =
    on c.loop-at.invariant c.next_entity.ensures c.in-At.is c.requires.feed_len_bound.1
    c.apply-m.ensures (omega (arith, c.if-m-gt-MOST_TRIPS.false))
