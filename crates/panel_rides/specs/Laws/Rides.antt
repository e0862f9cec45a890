-- Law. THE RIDE CHECKS of document 01 that are marked P.
use Rattle.std.specs.Prelude.{◌≤◌, ◌≡◌, true, [], leb, length}
use Rattle.std.proofs.Math.Path.{refl}
use Rattle.std.proofs.Common.{ap, ◌∙◌}
use Rattle.std.proofs.Math.Option.{some}
use borrow.Author.Tests.{eq-eqb, le-leb}
use Rattle.basics.specs.Laws.Texts.{same_refl}
use Rattle.decode.specs.Key as keys
use Rattle.wire.specs.Wire as wire
use Rattle.slices.specs.Lists.{lex_of}
use Rattle.realtime.specs.Tree.{tree, nest}
use Rattle.realtime.specs.Schema.{field_rows, feed}
use Rattle.calendar.specs.Civil.{leap_day, year_from, month_from}
use Rattle.calendar.specs.Paris.{is_summer}
use Rattle.decode.specs.Leaves as leaves
use Rattle.overlay.specs.State.{no_state}
use Rattle.overlay.specs.Valid as valid
use Rattle.overlay.specs.Image as image
use Rattle.overlay.specs.Records.{shown}
use Rattle.overlay.specs.Change as change
use Rattle.overlay.specs.Lookup as lookup
use Rattle.overlay.proofs.Laws.Buffer.{image_state}
use Rattle.journey.specs.Card.{card as card_form}
use Rattle.journey.specs.Times as times
use Rattle.journey.specs.Enrich as enrich
use Rattle.panel.specs.Questions as questions
use Rattle.panel.specs.Fresh.{fresh_asks}
use Rattle.panel.specs.Message.{tree_asks, message_asks}
use Rattle.panel.specs.Card.{finished, arriving_asks, card_asks}
use Rattle.panel.specs.Promises.Ends.{arriving_outcome}
use Rattle.panel.specs.Questions.{Lengths}
use Rattle.panel.specs.Outcome.{accepted, need, need_some}
use Rattle.panel.specs.Calls.{fresh, card, gives, fresh_overlay, run}
use Rattle.panel.specs.Rides.{Rides, empty_card, keyed, trips_from, table}
use Rattle.basics.specs.Rows.{Holds}
use Rattle.panel.proofs.Laws.Fresh.{empty_held}
use Rattle.panel.proofs.Laws.Sizes.{out_long}

table_holds : Holds table
unfolding table trips_from run fresh_asks message_asks tree_asks card_asks
    arriving_asks finished questions.whole
    image.state_of image.filled image.room valid.valid valid.within valid.feed_valid shown change.after_message
    change.feed_at change.put_feed
    leaves.leaves leaves.entries leaves.count_without_at
    tree nest feed field_rows wire.fields wire.many wire.field wire.value wire.payload wire.until wire.length_delimited
    wire.bytes wire.key wire.varint wire.digits lex_of
    lookup.first_that lookup.feed_of lookup.trip_at lookup.get_trip lookup.find_stop_update lookup.resolve_trip_rt
    lookup.get_vehicle_for_trip lookup.vehicle_for_trip lookup.stop_update_by_stop_id
    times.apply_time enrich.trip_rt enrich.cancels enrich.departs enrich.arrives enrich.live enrich.late enrich.applies
    enrich.alerts_of_transit enrich.disrupted
    enrich.enrich_middle enrich.enrich_transit enrich.status_of enrich.labels_of enrich.headers_of
    enrich.enrich_with_realtime
    is_summer leap_day year_from month_from
table_holds = (refl, (refl, (refl, (refl, (refl, (refl, (refl, (refl, (refl, (refl, tt))))))))))

-- ---- the first row at every length

module _ (L : Lengths) where
  lengths_yes : questions.lengths_ok L (fresh_overlay L) L.card L.card L.work.card L.work.card ≡ true
  lengths_yes =
      rw (
        eq-eqb (length (fresh_overlay L)) L.overlay (out_long L [] (fresh L.overlay)),
        eq-eqb L.card L.card refl,
        same_refl L.work.card,
      )
      refl

  module _ (wide : 3 ≤ L.overlay) where
    roomy : image.room L.overlay no_state ≡ true
    unfolding image.room
    roomy = le-leb 3 L.overlay wide

    fresh_image : fresh_overlay L ≡ image.image L.overlay no_state
    unfolding fresh_asks image.image
    fresh_image = rw (eq-eqb L.overlay L.overlay refl, roomy) refl

    fresh_state : image.state_of (fresh_overlay L) ≡ some no_state
    fresh_state = ap image.state_of fresh_image ∙ image_state L.overlay no_state empty_held

  -- what stands behind the second question
  arriving_same : 15 ≤ L.card
      → need (leb (length empty_card) 65536) 3
      (need_some (questions.whole card_form empty_card) 4 (arriving_outcome L no_state)) ≡ accepted empty_card
  unfolding questions.whole arriving_asks finished shown enrich.enrich_with_realtime
      enrich.enrich_transit enrich.enrich_middle
      enrich.status_of enrich.labels_of enrich.headers_of enrich.cancels enrich.late enrich.disrupted enrich.live
      enrich.alerts_of_transit
  arriving_same long = rw (le-leb 15 L.card long) refl

  empty_same : 3 ≤ L.overlay → 15 ≤ L.card
      → (gives L (fresh_overlay L) (card empty_card L.card L.work.card)).out ≡ image.filled L.card empty_card
  unfolding card_asks
  empty_same wide long = rw (lengths_yes, fresh_state wide, arriving_same long) refl

-- ---- the state of the last row

keys_valid : valid.valid (keyed 2048) ≡ true
unfolding trips_from valid.valid valid.within valid.feed_valid keys.key_ok keys.incomplete_key leaves.count_without_at
    lex_of
keys_valid = refl

pub rides : Rides
rides = record { rows = table_holds; same = empty_same; keys = keys_valid }
