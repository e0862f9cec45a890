-- Law. The state after a message, by what the index says of its trips and where its feed's body goes.
use Rattle.std.specs.Prelude.{ℕ, ◌≤◌, ◌≡◌, refl, Bool, true, false, cond, List, [], ◌∷◌, length, Option, Some, None, Result, Ok, Err}
use Rattle.std.proofs.Common.{sym, subst, ◌∙◌, arith, le-ltb}
use Rattle.std.proofs.Math.Path.{ap, ap₂}
use Rattle.std.proofs.Math.Bool.{◌&&◌}
use Rattle.std.proofs.Math.Option.{some}
use Rattle.basics.specs.Lists.{All}
use Rattle.maps.specs.Map.{ascending}
use Rattle.maps.specs.Order.{texts}
use Rattle.maps.proofs.Laws.Map.{puts_itself}
use Rattle.maps.proofs.Laws.Order.{texts_order}
use Rattle.formats.specs.Format.{write}
use Rattle.formats_judge.specs.Judged.{ok}
use Rattle.formats_write.specs.Promises.Adds.{Wrote}
use Rattle.realtime.specs.Tree.{Tree, tree}
use Rattle.realtime.specs.Schema.{feed_message}
use Rattle.realtime.specs.Schema as schema
use Rattle.decode.specs.Leaves.{Trips, leaves}
use Rattle.decode.specs.Sizes.{most_trips, key_bytes, most_old}
use Rattle.decode.specs.Trip.{updates_of}
use Rattle.decode_slots.specs.Index.{index}
use Rattle.decode_slots.specs.Places.{or_end, held, crowded}
use Rattle.decode_index.specs.Leaving.{trips, leaving}
use Rattle.decode_index.specs.declared.TooMany.{TooMany}
use Rattle.decode_index.proofs.Laws.Seven.{is_trips, leaving_seven, leaving_yes}
use Rattle.decode_index.specs.Promises.Leaving.{Leaves, Old, view_left}
use Rattle.decode_write.specs.Promises.Slots.{Writable}
use Rattle.overlay.specs.Change.{after_message, feed_at, put_feed}
use Rattle.overlay.specs.State.{Feed, State, overlay, trips_of, version_of}
use Rattle.overlay.proofs.Laws.Buffer.{valid_parts}
use Rattle.overlay.proofs.Laws.Counts.{message_seven}
use Rattle.overlay_feeds.specs.declared.Front.{Front}
use Rattle.overlay_feeds.specs.declared.Parts.{Parts}
use Rattle.overlay_feeds.specs.Promises.Parts.{FrontOf, PartsOf, ReadsFront, ReadsBack}
use Rattle.overlay_frame.specs.declared.FeedSpot.{FeedSpot}
use Rattle.overlay_frame.specs.Promises.Body.{no_body, FindsSpot}
use Rattle.overlay_frame.specs.Promises.Changes.{Changes}
use Rattle.overlay_frame.specs.Promises.Frame.{Spot}
use Rattle.overlay_frame.specs.Laws.Body.{of_feed, few_feeds, goes}
use Rattle.overlay_frame.specs.Laws.Changes.{within_seven, over_seven}
use Rattle.overlay_open.specs.Laws.Held.{short_keys}
use Rattle.overlay_open.specs.Promises.Held.{Open, HeldTrip}
use Rattle.overlay_message.specs.Promises.Message.{Leads, Ready, feed_after}

-- a buffer has one state
some_same : {A : Type 0} {a b : A} → some a ≡ some b → a ≡ b
some_same e = cc

of_open : {l m : List ℕ} {r : Option ℕ} {f s o : List ℕ} {end : ℕ} (O : Open o end)
    → ((t : Tree) → tree schema.feed feed_message s ≡ some t → Changes l m r (after_message f t O.state))
    → Leads l m r f s o
of_open {l} {m} {r} {f} O c = record {
  of = λ {st} {t} e is. subst (λ st. Changes l m r (after_message f t st)) (some_same (sym O.is ∙ e)) (c t is);
}

-- ---- where the feed's body goes

module _ {o f : List ℕ} {end : ℕ} {r : Option FeedSpot} (O : Open o end) (P : FindsSpot o f r) where
  pub full_leads : {l s : List ℕ} → r ≡ None → Leads l l None f s o
  unfolding after_message
  full_leads e =
      of_open O (λ t is. over_seven (after_message f t O.state) ((P.to O.here O.valid).full e _ _))

  pub known_ready : {from body count : ℕ} → length o ≤ most_old → r ≡ Some (FeedSpot.Known from body count)
      → Ready o end f from true count o body
  known_ready {from} {body} {count} h e = record {
    opened = O;
    small = h;
    place = (P.to O.here O.valid).known from body count e;
  }

  pub new_ready : {from count : ℕ} → r ≡ Some (FeedSpot.New from count) → Ready o end f from false count no_body 0
  new_ready {from} {count} e = record {
    opened = O;
    small = omega arith;
    place = (P.to O.here O.valid).new from count e;
  }

calm_trips : (f : List ℕ) (T : Trips) → All (HeldTrip f) T → All (λ e. crowded e.1 ≡ false) T
calm_trips f [] a = tt
calm_trips f (e ∷ T) a = (le-ltb 128 (length (updates_of e.1)) a.0.few, calm_trips f T a.1)

module _ {o h f : List ℕ} {end from body count : ℕ} {known : Bool} (K : Ready o end f from known count h body)
    {p : Front} (R : ReadsFront h body p) where
  abbrev st : State
  st = K.opened.state

  abbrev was : Feed
  was = feed_at f st

  front : FrontOf h was body K.place.till p
  front = R.to K.place.here

  pub ready_old : Old h p.trips
  ready_old =
      let v = K.opened.valid in
      record {
        stands = record {
          trips = trips_of was;
          end = front.till;
          here = front.trips_here;
          few = of_feed (λ F. length (trips_of F) ≤ most_trips) f st v (λ F H. H.trips_few) (omega arith);
          short = of_feed (λ F. All (λ t. length t.0 ≤ key_bytes) (trips_of F)) f st v (λ F H. short_keys H) tt;
          small = K.small;
        };
        calm = of_feed (λ F. All (λ e. crowded e.1 ≡ false) (trips_of F)) f st v
            (λ F H. calm_trips f (trips_of F) H.trips) tt;
      }

  up : ascending texts (trips_of was) ≡ true
  up = of_feed (λ F. ascending texts (trips_of F) ≡ true) f st K.opened.valid (λ F H. H.trips_up) refl

  -- ---- what the index says

  module _ {s keys marks order : List ℕ} {left : Result (ℕ × ℕ) TooMany}
      (L : Leaves f s h p.trips keys marks order left) where
    pub writable : {n v : ℕ} → left ≡ Ok (n, v) → Writable s h keys marks order n
    writable e = record { sound = L.sound e; fit = L.fit e; calm = L.calm e }

    module _ {t : Tree} (is : tree schema.feed feed_message s ≡ some t) where
      abbrev after : Trips
      after = leaves f t (trips_of was)

      left_is : view_left (λ n. held s h (index keys marks order n)) left ≡ leaving after
      left_is =
          L.of (trips_of was) front.till front.trips_here
          ∙ ap₂ (λ m T. leaving (leaves f m T)) (ap or_end is) (puts_itself texts_order (trips_of was) up)

      left_trips : {n v : ℕ} → left ≡ Ok (n, v) → leaving after ≡ trips (held s h (index keys marks order n))
      left_trips d = sym left_is ∙ ap (view_left (λ n. held s h (index keys marks order n))) d

      held_is : {n v : ℕ} → left ≡ Ok (n, v) → held s h (index keys marks order n) ≡ after
      held_is {n} d =
          let x = left_trips d in
          let y : leaving after ≡ trips after = (leaving_yes after).0 (leaving_seven after ∙ ap is_trips x) in
          let z : trips (held s h (index keys marks order n)) ≡ trips after = sym x ∙ y in
          cc

      seven_is : ok 7 overlay (after_message f t st) ≡ is_trips (leaving after)
      unfolding after_message
      seven_is =
          message_seven f st (valid_parts st K.opened.valid).seven t
          ∙ ap₂ ◌&&◌ (few_feeds K.place.spot (feed_after f t was after) (version_of st) K.place.few)
          (leaving_seven after)

    -- a limit is passed
    too_many : {l : List ℕ} → is_trips (view_left (λ n. held s h (index keys marks order n)) left) ≡ false
        → Leads l l None f s o
    too_many d =
        of_open K.opened (λ t is.
        over_seven (after_message f t st) (seven_is is ∙ ap is_trips (sym (left_is is)) ∙ d))

    pub many_trips : {l : List ℕ} → left ≡ Err TooMany.Trips → Leads l l None f s o
    many_trips e = too_many (ap (λ x. is_trips (view_left (λ n. held s h (index keys marks order n)) x)) e)

    pub many_updates : {l : List ℕ} → left ≡ Err TooMany.Updates → Leads l l None f s o
    many_updates e = too_many (ap (λ x. is_trips (view_left (λ n. held s h (index keys marks order n)) x)) e)

    pub many : {l : List ℕ} (x : TooMany) → left ≡ Err x → Leads l l None f s o
    many TooMany.Trips e = many_trips e
    many TooMany.Updates e = many_updates e

    -- the trips are written
    pub exchanged : {l m : List ℕ} {r : Option ℕ} {n v to : ℕ} {q : Parts} → left ≡ Ok (n, v) → ReadsBack h p v q
        → to ≡ cond known q.end from
        → ((st : State) (F : Feed) (a e : ℕ) (t : Tree) → Spot o end st f from to count → PartsOf h F a e q
        → tree schema.feed feed_message s ≡ some t
        → Wrote l m r (write overlay
        (put_feed f (feed_after f t F (held s h (index keys marks order n))) (version_of st) st)))
        → Leads l m r f s o
    unfolding after_message
    exchanged {l} {m} {r} d B i w =
        of_open K.opened (λ t is.
        let Q = B.to front (L.passes d) in
        within_seven (after_message f t st) (seven_is is ∙ ap is_trips (left_trips is d))
        (subst (λ T. Wrote l m r (write overlay (put_feed f (feed_after f t was T) (version_of st) st))) (held_is is d)
        (w st was body K.place.till t (goes K.place i Q.end_is) Q is)))
