-- Law. A FINISHED CARD IS A CARD: within questions 5 and 6 again, where the arriving card and the feeds are.
use Rattle.std.specs.Prelude.{◌≡◌, Bool, cond, ◌&&◌, ℕ, zero, suc, ◌+◌, ◌-◌, ◌≤◌, ℤ, pos, negsuc, ◌+ℤ◌, ◌-ℤ◌, leb, ltb, length}
use Rattle.std.proofs.Math.Path.{refl}
use Rattle.std.proofs.Math.Bool.{true, false}
use Rattle.std.proofs.lemmas.Bool.{false≢true}
use mathlib.Core.List.{List, [], ◌∷◌, map}
use Rattle.std.proofs.Common.{inl, inr, arith, leb-true, le-leb, ltb-true, ltb-false}
use Rattle.std.proofs.Math.Option.{Option, none, some}
use Rattle.std.proofs.Math.IntN.{sub_ℕ}
use Rattle.basics.specs.Lists.{All, any}
use Rattle.formats.specs.Class.{in_class, utf8}
use Rattle.formats.specs.Format.{Format, text, optional, small, float, Value}
use Rattle.formats_judge.specs.Judged.{ok, at_most}
use Rattle.decode.specs.Trip.{Trip, StopUpdate, delay, instant, stop_update, trip}
use Rattle.basics.specs.Options.{Maybe, or_other, given_or}
use Rattle.alerts.specs.Alert as alert
use Rattle.alerts.specs.Alert.{Alert}
use Rattle.alerts.specs.Label.{label}
use Rattle.alerts.proofs.Laws.Label.{label_utf8, label_length}
use Rattle.overlay.specs.State.{Vehicle, vehicle, latitude_of, longitude_of, updated_of}
use Rattle.basics.specs.Laws.Booleans.{both_true}
use Rattle.overlay.proofs.Laws.Within.{Judged56, left, right, joined, elements, listed, absent, present, both}
use Rattle.overlay.proofs.Laws.EveryEntry.{each_map}
use Rattle.decode.specs.Laws.Fine.{Given}
use Rattle.overlay.specs.Lookup.{FeedTrip, find_stop_update, get_vehicle_for_trip}
use Rattle.overlay.specs.Records.{Records, Feeds}
use Rattle.journey.specs.Card.{scheduled, card_time, duration, middle, transit, leg, card, Transit, middle_of}
use Rattle.journey.specs.Card.{middle_value, transit_of, transit_value, card_of, card_value}
use Rattle.journey.specs.Times.{Event, arrival, departure, StopRealtime, event_time, event_delay, delayed, timed}
use Rattle.journey.specs.Times.{updated, apply_time}
use Rattle.basics.specs.Integers.{low32, wrap32}
use Rattle.journey.specs.Enrich.{trip_rt, cancels, departs, arrives, live, taken, placed, enrich_middle}
use Rattle.journey.specs.Enrich.{enrich_transit, enrich_leg, transits, late, disrupted, status_of, headers_of}
use Rattle.journey.specs.Enrich.{first_departure, last_arrival, enrich_with_realtime}
use Rattle.journey.proofs.Laws.Headers.{headers_each}
use Rattle.journey.proofs.Laws.Found.{RecordsJudged, FeedsJudged, FoundJudged, resolve_gives, update_gives}
use Rattle.journey.proofs.Laws.Found.{vehicle_gives}

-- ---- ranges

ranged : (z : ℤ) → (at_most (negsuc 1200798847) z && at_most z (pos 4293400446)) ≡ true → Judged56 card_time z
ranged z h = record { formed = tt; five = refl; six = h }

scheduled_range : (z : ℤ) → Judged56 scheduled z → Judged56 card_time z
scheduled_range (pos n) j =
    ranged (pos n)
    (le-leb n 4293400446
    (omega (arith, leb-true n 2145916799 (both_true (leb 946684800 n) (leb n 2145916799) j.six).1)))
scheduled_range (negsuc n) j = absurd (false≢true j.six)

instant_range : (z : ℤ) → Judged56 instant z → Judged56 card_time z
instant_range (pos n) j =
    ranged (pos n)
    (le-leb n 4293400446 (omega (arith, leb-true n 4102444800 (both_true (leb 0 n) (leb n 4102444800) j.six).1)))
instant_range (negsuc n) j = absurd (false≢true j.six)

-- a scheduled time moved by a delay, exactly
moved_range : (z d : ℤ) → Judged56 scheduled z → Judged56 delay d → Judged56 card_time (z +ℤ d)
moved_range (negsuc n) d j k = absurd (false≢true j.six)
moved_range (pos n) (pos e) j k =
    let a = both_true (leb 946684800 n) (leb n 2145916799) j.six in
    ranged (pos (n + e))
    (le-leb (n + e) 4293400446 (omega (arith, leb-true n 2145916799 a.1, leb-true e 2147483647 k.six)))
moved_range (pos n) (negsuc e) j k = go (ltb n (suc e)) refl
  where
    a : (leb 946684800 n ≡ true) × (leb n 2145916799 ≡ true)
    a = both_true (leb 946684800 n) (leb n 2145916799) j.six

    b : e ≤ 2147483647
    b = leb-true e 2147483647 (both_true (leb e 2147483647) true k.six).0

    go : (t : Bool) → ltb n (suc e) ≡ t → Judged56 card_time (cond t (negsuc (suc e - suc n)) (pos (n - suc e)))
    go true h =
        ranged (negsuc (suc e - suc n))
        (both (le-leb (suc e - suc n) 1200798847 (omega (arith, leb-true 946684800 n a.0, b))) refl)
    go false h = ranged (pos (n - suc e)) (le-leb (n - suc e) 4293400446 (omega (arith, leb-true n 2145916799 a.1)))

wrap_range : (z : ℤ) → Judged56 delay (wrap32 z)
wrap_range z = record { formed = tt; five = refl; six = go (ltb m 2147483648) refl }
  where
    m : ℕ
    m = low32 z

    go : (b : Bool) → ltb m 2147483648 ≡ b → ok 6 delay (cond b (pos m) (negsuc (4294967295 - m))) ≡ true
    go true e = le-leb m 2147483647 (omega (arith, ltb-true m 2147483648 e))
    go false e = both (le-leb (4294967295 - m) 2147483647 (omega (arith, ltb-false m 2147483648 e))) refl

-- ---- an event

record EventJudged (r : StopRealtime) : Type 0 where
  time : Judged56 card_time r.time
  delay : Judged56 delay r.delay

latest_judged : {F : Format} (a b : Maybe (Value F)) → Judged56 (optional F) a → Judged56 (optional F) b
    → Judged56 (optional F) (or_other a b)
latest_judged (inl x) b p q = q
latest_judged (inr z) b p q = p

delayed_judged : (z : ℤ) (told : Bool) (d : Maybe ℤ) → Judged56 scheduled z → Judged56 (optional delay) d
    → EventJudged (delayed z told d)
delayed_judged z told (inl x) j k =
    record { time = scheduled_range z j; delay = record { formed = tt; five = refl; six = refl } }
delayed_judged z told (inr d) j k =
    let q : Judged56 delay d = record { formed = k.formed; five = k.five; six = k.six } in
    record { time = moved_range z d j q; delay = q }

timed_judged : (z : ℤ) (t : Maybe ℤ) (r : StopRealtime) → Judged56 (optional instant) t → EventJudged r
    → EventJudged (timed z t r)
timed_judged z (inl x) r k h = h
timed_judged z (inr t) r k h =
    record {
      time = instant_range t (record { formed = k.formed; five = k.five; six = k.six });
      delay = wrap_range (t -ℤ z);
    }

module _ (u : StopUpdate) (j : Judged56 stop_update u) where
  time_judged : (e : Event) → Judged56 (optional instant) (event_time e u)
  time_judged arrival =
      latest_judged {F = instant} _ _ (left (right (right j))) (left (right (right (right (right j)))))
  time_judged departure =
      latest_judged {F = instant} _ _ (left (right (right (right (right j))))) (left (right (right j)))

  delay_judged : (e : Event) → Judged56 (optional delay) (event_delay e u)
  delay_judged arrival = latest_judged {F = delay} _ _ (left (right j)) (left (right (right (right j))))
  delay_judged departure = latest_judged {F = delay} _ _ (left (right (right (right j)))) (left (right j))

updated_judged : (e : Event) (z : ℤ) (t : Trip) (o : Option StopUpdate) → Judged56 scheduled z → Judged56 trip t
    → Given (Judged56 stop_update) o → EventJudged (updated e z t o)
updated_judged e z t none j k x = delayed_judged z _ t.0 j (left k)
updated_judged e z t (some u) j k x =
    timed_judged z (event_time e u) _ (time_judged u x e)
    (delayed_judged z true _ j (latest_judged {F = delay} (event_delay e u) t.0 (delay_judged u x e) (left k)))

apply_judged : (r : Option FeedTrip) (e : Event) (z : ℤ) (sequence : Maybe ℕ) (stop : List ℕ) → Given FoundJudged r
    → Judged56 scheduled z → EventJudged (apply_time r e z sequence stop)
unfolding apply_time
apply_judged none e z sequence stop x j = delayed_judged z false (inl tt) j (absent delay)
apply_judged (some r) e z sequence stop x j =
    updated_judged e z r.1 (find_stop_update r.0 sequence stop r.1) j x
    (update_gives r.0 stop r.1 x sequence).is

-- ---- a leg

taken_judged : {F : Format} (b : Bool) (a : Value F) (old : Maybe (Value F)) → Judged56 F a → Judged56 (optional F) old
    → Judged56 (optional F) (taken b a old)
taken_judged {F} true a old j k = present F a j
taken_judged {F} false a old j k = k

placed_judged : {F : Format} (g : Vehicle → Value F) (o : Option Vehicle) (old : Maybe (Value F))
    → ((v : Vehicle) → Judged56 vehicle v → Judged56 F (g v)) → Given (Judged56 vehicle) o
    → Judged56 (optional F) old → Judged56 (optional F) (placed g o old)
placed_judged g none old h x k = k
placed_judged {F} g (some v) old h x k = present F (g v) (h v x)

module _ (r : Option FeedTrip) (x : Given FoundJudged r) where
  middle_judged : (m : Value middle) → Judged56 middle m
      → Judged56 middle (middle_value (enrich_middle r (middle_of m)))
  unfolding enrich_middle
  middle_judged m j =
      let a = left (right j) in
      let d = left (right (right j)) in
      let to = apply_time r arrival m.1.0 (inl tt) m.0 in
      let off = apply_time r departure m.1.1.0 (inl tt) m.0 in
      joined _ (left j) (joined _ a (joined _ d
      (joined _
      (taken_judged {F = card_time} to.has to.time _
      (apply_judged r arrival m.1.0 (inl tt) m.0 x a).time (left (right (right (right j)))))
      (taken_judged {F = card_time} off.has off.time _
      (apply_judged r departure m.1.1.0 (inl tt) m.0 x d).time (right (right (right (right j))))))))

  middles_judged : (l : List (Value middle)) → All (Judged56 middle) l
      → All (Judged56 middle) (map (λ m. middle_value (enrich_middle r (middle_of m))) l)
  middles_judged [] h = tt
  middles_judged (m ∷ l) h = (middle_judged m h.0, middles_judged l h.1)

module _ (B : Feeds) (h : FeedsJudged B) where
  found_judged : (t : Transit) → Given FoundJudged (trip_rt B t)
  unfolding trip_rt
  found_judged t = (resolve_gives B h t.trip t.route t.direction _).is

  cancelled_judged : (b : Bool) (n : ℕ) → Judged56 (small 1) n → Judged56 (small 1) (cond b 1 n)
  cancelled_judged true n j = record { formed = omega arith; five = refl; six = refl }
  cancelled_judged false n j = j

  transit_judged : (v : Value transit) → Judged56 transit v
      → Judged56 transit (transit_value (enrich_transit B (transit_of v)))
  unfolding enrich_transit departs arrives
  transit_judged v j0 =
      let t = transit_of v in
      let r = found_judged t in
      let found = get_vehicle_for_trip B t.trip in
      let w = (vehicle_gives B h t.trip).is in
      let j1 = right j0 in
      let j2 = right j1 in
      let j3 = right j2 in
      let j4 = right j3 in
      let j5 = right j4 in
      let j6 = right j5 in
      let j7 = right j6 in
      let j8 = right j7 in
      let j9 = right j8 in
      let j10 = right j9 in
      let j11 = right j10 in
      let j12 = right j11 in
      let j13 = right j12 in
      let j14 = right j13 in
      let j15 = right j14 in
      let j16 = right j15 in
      let j17 = right j16 in
      let j18 = right j17 in
      let j19 = right j18 in
      let d = apply_judged (trip_rt B t) departure t.scheduled_departure (inr t.from_sequence) t.from r
      (left j9) in
      let a = apply_judged (trip_rt B t) arrival t.scheduled_arrival (inr t.to_sequence) t.to r (left j10) in
      joined _ (left j0)
      (joined _ (left j1)
      (joined _ (left j2) (joined _ (left j3) (joined _ (left j4) (joined _ (left j5) (joined _ (left j6)
      (joined _ (left j7) (joined _ (left j8) (joined _ (left j9) (joined _ (left j10)
      (joined _ (taken_judged {F = card_time} (live B t) _ _ d.time (left j11))
      (joined _ (taken_judged {F = card_time} (live B t) _ _ a.time (left j12))
      (joined _ (taken_judged {F = delay} (live B t) _ _ d.delay (left j13))
      (joined _ (taken_judged {F = delay} (live B t) _ _ a.delay (left j14))
      (joined _ (cancelled_judged (cancels B t) t.cancelled (left j15))
      (joined _ (placed_judged {F = float} latitude_of found _ (λ v k. left (right k)) w (left j16))
      (joined _ (placed_judged {F = float} longitude_of found _ (λ v k. left (right (right k))) w (left j17))
      (joined _
      (placed_judged {F = card_time} updated_of found _
      (λ v k. instant_range (updated_of v) (right (right (right k)))) w (left j18))
      (joined _
      (listed 64 middle _
      (middles_judged (trip_rt B t) r t.middles (elements 64 middle t.middles (left j19))))
      (right j19))))))))))))))))))))

  leg_judged : (v : Value leg) → Judged56 leg v → Judged56 leg (enrich_leg B v)
  leg_judged (inl p) j = j
  leg_judged (inr t) j =
      let k = transit_judged t (record { formed = j.formed; five = j.five; six = j.six }) in
      record { formed = k.formed; five = k.five; six = k.six }

  legs_judged : (l : List (Value leg)) → All (Judged56 leg) l → All (Judged56 leg) (map (enrich_leg B) l)
  legs_judged [] x = tt
  legs_judged (v ∷ l) x = (leg_judged v x.0, legs_judged l x.1)

-- ---- the card

-- the first realtime departure and the last realtime arrival
first_judged : (l : List (Value leg)) → All (Judged56 leg) l
    → Judged56 (optional card_time) (first_departure (transits l))
first_judged [] h = absent card_time
first_judged (inl p ∷ l) h = first_judged l h.1
first_judged (inr t ∷ l) h = realtime t h.0
  where
    realtime : (t : Value transit) → Judged56 leg (inr t)
        → Judged56 (optional card_time) (transit_of t).realtime_departure
    realtime t j =
        let k : Judged56 transit t = record { formed = j.formed; five = j.five; six = j.six } in
        left (right (right (right (right (right (right (right (right (right (right (right k)))))))))))

transits_judged : (l : List (Value leg)) → All (Judged56 leg) l
    → All (λ t. Judged56 (optional card_time) t.realtime_arrival) (transits l)
transits_judged [] h = tt
transits_judged (inl p ∷ l) h = transits_judged l h.1
transits_judged (inr t ∷ l) h = (realtime t h.0, transits_judged l h.1)
  where
    realtime : (t : Value transit) → Judged56 leg (inr t)
        → Judged56 (optional card_time) (transit_of t).realtime_arrival
    realtime t j =
        let k : Judged56 transit t = record { formed = j.formed; five = j.five; six = j.six } in
        left (right (right (right (right (right (right (right (right (right (right (right (right k))))))))))))

last_judged : (l : List Transit) → All (λ t. Judged56 (optional card_time) t.realtime_arrival) l
    → Judged56 (optional card_time) (last_arrival l)
last_judged [] h = absent card_time
last_judged (t ∷ []) h = h.0
last_judged (t ∷ u ∷ l) h = last_judged (u ∷ l) h.1

given_judged : (z : ℤ) (o : Maybe ℤ) → Judged56 card_time z → Judged56 (optional card_time) o
    → Judged56 card_time (given_or z o)
given_judged z (inl x) j k = j
given_judged z (inr y) j k = record { formed = k.formed; five = k.five; six = k.six }

-- the duration
lasting : (z : ℤ) → (at_most (negsuc 5494199293) z && at_most z (pos 5494199294)) ≡ true → Judged56 duration z
lasting z h = record { formed = tt; five = refl; six = h }

below_judged : (n : ℕ) → Judged56 card_time (pos n) → n ≤ 4293400446
below_judged n j = leb-true n 4293400446 j.six

above_judged : (n : ℕ) → Judged56 card_time (negsuc n) → n ≤ 1200798847
above_judged n j = leb-true n 1200798847 (both_true (leb n 1200798847) true j.six).0

sub_judged : (m n : ℕ) → m ≤ 5494199294 → n ≤ 5494199294 → Judged56 duration (sub_ℕ m n)
sub_judged m n a b = go (ltb m n) refl
  where
    go : (t : Bool) → ltb m n ≡ t → Judged56 duration (cond t (negsuc (n - suc m)) (pos (m - n)))
    go true h = lasting (negsuc (n - suc m)) (both (le-leb (n - suc m) 5494199293 (omega (arith, ltb-true m n h))) refl)
    go false h = lasting (pos (m - n)) (le-leb (m - n) 5494199294 (omega arith))

difference_judged : (a d : ℤ) → Judged56 card_time a → Judged56 card_time d → Judged56 duration (a -ℤ d)
difference_judged (pos m) (pos zero) j k =
    lasting (pos (m + 0)) (le-leb (m + 0) 5494199294 (omega (arith, below_judged m j)))
difference_judged (pos m) (pos (suc n)) j k =
    sub_judged m (suc n) (omega (arith, below_judged m j)) (omega (arith, below_judged (suc n) k))
difference_judged (pos m) (negsuc n) j k =
    lasting (pos (m + suc n)) (le-leb (m + suc n) 5494199294 (omega (arith, below_judged m j, above_judged n k)))
difference_judged (negsuc m) (pos zero) j k = sub_judged 0 (suc m) (omega arith) (omega (arith, above_judged m j))
difference_judged (negsuc m) (pos (suc n)) j k =
    lasting (negsuc (suc (m + n)))
    (both (le-leb (suc (m + n)) 5494199293 (omega (arith, above_judged m j, below_judged (suc n) k))) refl)
difference_judged (negsuc m) (negsuc n) j k =
    sub_judged (suc n) (suc m) (omega (arith, above_judged n k)) (omega (arith, above_judged m j))

-- the headers
abbrev header_text : Format
header_text = text 512 utf8

optional_text : (l : ℕ) (o : Maybe (List ℕ)) → Judged56 (optional (text l utf8)) o
    → (length (alert.or_empty_text o) ≤ l) × (in_class utf8 (alert.or_empty_text o) ≡ true)
optional_text l (inl x) j = (omega arith, refl)
optional_text l (inr x) j = let q = both_true (leb (length x) l) (in_class utf8 x) j.five in
    (leb-true (length x) l q.0, q.1)

label_judged : (a : Alert) → Judged56 alert.alert a → Judged56 header_text (label a)
label_judged a j =
    let h = optional_text 512 (alert.header a) (left j) in
    let d = optional_text 2048 (alert.description a) (left (right j)) in
    let p = alert.is_given (alert.header a) in
    record {
      formed = tt;
      five = both
          (le-leb _ 512
          (label_length p (alert.or_empty_text (alert.header a)) (alert.or_empty_text (alert.description a)) h.0 d.1))
          (label_utf8 p (alert.or_empty_text (alert.header a)) (alert.or_empty_text (alert.description a)) h.1 d.1);
      six = refl;
    }

module _ (B : Feeds) (h : FeedsJudged B) where
  headers_judged : (ts : List Transit) → All (Judged56 header_text) (headers_of B ts)
  headers_judged = headers_each B (Judged56 header_text) (λ f. go (B f) (h f))
    where
      labelled : (l : List Alert) → All (Judged56 alert.alert) l → All (λ a. Judged56 header_text (label a)) l
      labelled l x = each_map label_judged l x

      go : (o : Option Records) → Given RecordsJudged o
          → Given (λ R. All (λ a. Judged56 header_text (label a)) R.alerts) o
      go none x = tt
      go (some R) x = labelled R.alerts x.alerts

  status_small : (ts : List Transit) → Judged56 (small 4) (status_of B ts)
  unfolding status_of
  status_small ts = go (any (cancels B) ts) (any (late B) ts) (any (disrupted B) ts) (any (live B) ts)
    where
      go : (a b c d : Bool) → Judged56 (small 4) (cond a 4 (cond b 3 (cond c 2 (cond d 1 0))))
      go true b c d = record { formed = omega arith; five = refl; six = refl }
      go false true c d = record { formed = omega arith; five = refl; six = refl }
      go false false true d = record { formed = omega arith; five = refl; six = refl }
      go false false false true = record { formed = omega arith; five = refl; six = refl }
      go false false false false = record { formed = omega arith; five = refl; six = refl }

  -- THE FINISHED CARD is within questions 5 and 6: its times, delays and duration in their ranges, its headers
  -- UTF-8 of at most 512 bytes
  pub finished_judged : (v : Value card) → Judged56 card v
      → Judged56 card (card_value (enrich_with_realtime B (card_of v)))
  unfolding enrich_with_realtime
  finished_judged v j =
      let legs = v.1.1.1.1.1.1 in
      let k = legs_judged B h legs (elements 16 leg legs (right (right (right (right (right (right j))))))) in
      let new = map (enrich_leg B) legs in
      let d = given_judged v.1.0 _ (left (right j)) (first_judged new k) in
      let a = given_judged v.1.1.0 _ (left (right (right j)))
      (last_judged (transits new) (transits_judged new k)) in
      joined _ (left j) (joined _ d (joined _ a (joined _ (difference_judged _ _ a d)
      (joined _ (status_small (transits legs))
      (joined _ (listed 1024 header_text _ (headers_judged (transits legs))) (listed 16 leg new k))))))
