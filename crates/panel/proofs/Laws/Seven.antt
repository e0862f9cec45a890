-- Law. Question 7 in document 01's words, for every state and every card: 4 feeds; in each 2,048 trip keys, 1,024
-- vehicles, 256 alerts; 128 updates a trip; 32 ids a list; on a card 16 legs, 64 middle stops a leg, 1,024 headers.
use Rattle.std.specs.Prelude.{ℕ, ◌≡◌, refl, Bool, true, false, ◌&&◌, List, [], ◌∷◌, ℤ, leb, length}
use Rattle.std.proofs.Common.{ap, ap₂, ◌∙◌, inl, inr}
use Rattle.std.proofs.Math.Option.{some}
use Rattle.formats.specs.Class.{utf8, printable}
use Rattle.basics.specs.Lists.{all}
use Rattle.formats.specs.Format.{Format, text, list, ◌&◌, Value, write}
use Rattle.formats_judge.specs.Judged.{ok}
use Rattle.decode.specs.Trip.{instant, Trip, updates_of, number32, stop_update, trip_entry}
use Rattle.alerts.specs.Alert.{Alert, alert, alert_sheet, informed_trip_ids, informed_route_ids, informed_stop_ids}
use Rattle.overlay.specs.State.{Feed, State, vehicle_entry, vehicle_sheet, feed_entry, overlay, trips_of, vehicles_of}
use Rattle.overlay.specs.State.{alerts_of, feeds_of}
use Rattle.overlay.specs.Image.{room}
use Rattle.overlay.proofs.Laws.Within.{Judged56, judges, all_true, unjudged, elements, right}
use Rattle.overlay.proofs.Laws.StaysValid.{StateKept, kept_room, message_kept, alerts_kept, vehicles_kept}
use Rattle.overlay.proofs.Laws.Entered.{entries_kept, timestamp_kept}
use Rattle.overlay.specs.Change.{after_message, after_alerts, after_vehicles}
use Rattle.basics.specs.Laws.Booleans.{both_true}
use Rattle.realtime.specs.Tree.{Tree, tree}
use Rattle.realtime.specs.Schema.{feed_message, feed}
use Rattle.realtime.specs.Judge.{rules, texts_fine, numbers_fine}
use Rattle.journey.specs.Card.{middle, transit, leg, card, card_of, transit_of}
use Rattle.panel.specs.Outcome.{Outcome, accepted, need}
use Rattle.panel.specs.Questions.{Lengths, Published, feed_ok, whole}
use Rattle.panel.specs.Message.{tree_asks}
use Rattle.panel.specs.AlertSheet.{alerts_ask}
use Rattle.panel.specs.VehicleSheet.{vehicles_ask}
use Rattle.panel.specs.Promises.Ends.{changed_state, tree_outcome, alerts_outcome as sheet_of}
use Rattle.panel.specs.Promises.Ends.{vehicles_outcome as vehicle_sheet_of}
use Rattle.panel.proofs.Laws.Lawful.{whole_formed}

abbrev pub trip_few : List ℕ × Trip → Bool
trip_few e = leb (length (updates_of e.1)) 128

abbrev pub alert_few : Alert → Bool
alert_few a = leb (length (informed_trip_ids a)) 32
    && (leb (length (informed_route_ids a)) 32 && leb (length (informed_stop_ids a)) 32)

abbrev pub feed_few : List ℕ × Feed → Bool
feed_few e =
    (leb (length (trips_of e.1)) 2048 && all trip_few (trips_of e.1))
    && (leb (length (vehicles_of e.1)) 1024 && (leb (length (alerts_of e.1)) 256 && all alert_few (alerts_of e.1)))

abbrev pub state_few : State → Bool
state_few s = leb (length (feeds_of s)) 4 && all feed_few (feeds_of s)

abbrev pub leg_few : Value leg → Bool
leg_few (inl payload) = true
leg_few (inr t) = leb (length (transit_of t).middles) 64

abbrev pub card_few : Value card → Bool
card_few v = leb (length (card_of v).headers) 1024 && (leb (length (card_of v).legs) 16 && all leg_few (card_of v).legs)

-- what question 7 says of a value
record Says (f : Format) (v : Value f) (b : Bool) : Type 0 where
  is : ok 7 f v ≡ b

both : {a b : Format} {v : Value (a & b)} {x y : Bool} → Says a v.0 x → Says b v.1 y → Says (a & b) v (x && y)
both p q = record { is = ap₂ ◌&&◌ p.is q.is }

-- a first part, or a last one, without lists has no say
behind : {a b : Format} {v : Value (a & b)} {x : Bool} → judges 7 a ≡ false → Says b v.1 x → Says (a & b) v x
behind {a} {b} {v} h p = record { is = rw (unjudged 7 a h v.0) p.is }

and_right : (a b : Bool) → b ≡ true → (a && b) ≡ a
and_right true b e = e
and_right false b e = refl

before : {a b : Format} {v : Value (a & b)} {x : Bool} → judges 7 b ≡ false → Says a v.0 x → Says (a & b) v x
before {a} {b} {v} h p = record { is = and_right (ok 7 a v.0) (ok 7 b v.1) (unjudged 7 b h v.1) ∙ p.is }

-- a list, and one whose values have no lists
each : {A : Type 0} (p q : A → Bool) → ((x : A) → p x ≡ q x) → (v : List A) → all p v ≡ all q v
each p q h [] = refl
each p q h (x ∷ v) = ap₂ ◌&&◌ (h x) (each p q h v)

listed : (l : ℕ) (f : Format) (p : Value f → Bool) → ((x : Value f) → Says f x (p x)) → (v : List (Value f))
    → Says (list l f) v (leb (length v) l && all p v)
listed l f p h v = record { is = ap (λ b. leb (length v) l && b) (each (ok 7 f) p (λ x. (h x).is) v) }

short : (l : ℕ) (f : Format) → judges 7 f ≡ false → (v : List (Value f)) → Says (list l f) v (leb (length v) l)
short l f h v = record { is = and_right (leb (length v) l) (all (ok 7 f) v) (all_true (ok 7 f) (unjudged 7 f h) v) }

of_trip : (e : Value trip_entry) → Says trip_entry e (trip_few e)
of_trip e =
    behind refl
    (behind refl
    (behind refl
    (behind refl
    (behind refl (behind refl (behind refl (short 128 (number32 & stop_update) refl (updates_of e.1))))))))

of_alert : (a : Alert) → Says alert a (alert_few a)
of_alert a =
    let ids = short 32 (text 64 printable) refl in
    behind refl
    (behind refl
    (behind refl
    (both (ids (informed_trip_ids a)) (both (ids (informed_route_ids a)) (ids (informed_stop_ids a))))))

of_feed : (e : Value feed_entry) → Says feed_entry e (feed_few e)
of_feed e =
    behind refl (behind refl (behind refl
    (both (listed 2048 trip_entry trip_few of_trip (trips_of e.1))
    (both (short 1024 vehicle_entry refl (vehicles_of e.1)) (listed 256 alert alert_few of_alert (alerts_of e.1))))))

of_transit : (t : Value transit) → Says transit t (leb (length (transit_of t).middles) 64)
of_transit t =
    behind refl
    (behind refl
    (behind refl (behind refl (behind refl (behind refl (behind refl (behind refl (behind refl (behind refl
    (behind refl (behind refl (behind refl (behind refl (behind refl (behind refl (behind refl (behind refl (behind refl
    (before refl (short 64 middle refl (transit_of t).middles))))))))))))))))))))

of_leg : (x : Value leg) → Says leg x (leg_few x)
of_leg (inl p) = record { is = refl }
of_leg (inr t) = record { is = (of_transit t).is }

of_card : (v : Value card) → Says card v (card_few v)
of_card v =
    behind refl (behind refl (behind refl (behind refl (behind refl
    (both (short 1024 (text 512 utf8) refl (card_of v).headers) (listed 16 leg leg_few of_leg (card_of v).legs))))))

-- QUESTION 7 OF A STATE
pub seven_state : (s : State) → ok 7 overlay s ≡ state_few s
seven_state s = let w : Says overlay s (state_few s) =
    behind refl (behind refl (listed 4 feed_entry feed_few of_feed (feeds_of s))) in w.is

-- QUESTION 7 OF A CARD
pub seven_card : (v : Value card) → ok 7 card v ≡ card_few v
seven_card v = (of_card v).is

-- the counts of the state s, and its writing
abbrev pub counted : State → Outcome
counted s = need (state_few s) 7 (accepted (write overlay s))

-- AT THE PUBLISHED LENGTH question 7 of what a call leaves is these counts alone: what is within them always has room
pub seven_published : {L : Lengths} → Published L → (old : List ℕ) (s : State) → StateKept s
    → changed_state L old s ≡ counted s
seven_published {L} P old s k =
    go (ok 7 overlay s) refl ∙ ap (λ b. need b 7 (accepted (write overlay s))) (seven_state s)
  where
    go : (b : Bool) → ok 7 overlay s ≡ b
        → need (b && room L.overlay s) 7 (accepted (write overlay s)) ≡ need b 7 (accepted (write overlay s))
    go true e = rw (P.overlay, kept_room s k e) refl
    go false e = refl

-- ---- the same call by call, in the light of what the earlier questions say

-- what holds where a question, or two, are answered by yes
once : (a : Bool) (n : ℕ) (o p : Outcome) → (a ≡ true → o ≡ p) → need a n o ≡ need a n p
once true n o p h = h refl
once false n o p h = refl

twice : (a b : Bool) (n m : ℕ) (o p : Outcome) → (a ≡ true → b ≡ true → o ≡ p)
    → need a n (need b m o) ≡ need a n (need b m p)
twice a b n m o p h = once a n (need b m o) (need b m p) (λ e. once b m o p (h e))

-- A MESSAGE
pub message_seven : {L : Lengths} → Published L → (old f m : List ℕ) (s : State) (t : Tree) → StateKept s
    → tree feed feed_message m ≡ some t
    → tree_outcome L old f s t
    ≡ need (feed_ok f && texts_fine rules feed_message t) 5
    (need (numbers_fine rules feed_message t) 6 (counted (after_message f t s)))
unfolding tree_asks
message_seven P old f m s t k is =
    twice (feed_ok f && texts_fine rules feed_message t) (numbers_fine rules feed_message t) 5 6 _ _ (λ a b.
    let y = both_true (feed_ok f) (texts_fine rules feed_message t) a in
    seven_published P old (after_message f t s)
    (message_kept f t s y.0 (entries_kept f y.0 m t is y.1 b) (timestamp_kept t) k))

-- AN ALERT SHEET
pub alerts_seven : {L : Lengths} → Published L → (old f sheet : List ℕ) (s : State) (v : Value alert_sheet)
    → StateKept s
    → whole alert_sheet sheet ≡ some v
    → sheet_of L old f s v ≡ need (feed_ok f && ok 5 alert_sheet v) 5 (counted (after_alerts f v.1 s))
unfolding alerts_ask
alerts_seven P old f sheet s v k is =
    once (feed_ok f && ok 5 alert_sheet v) 5 _ _ (λ a.
    let y = both_true (feed_ok f) (ok 5 alert_sheet v) a in
    let w = whole_formed alert_sheet sheet v is in
    let j : Judged56 alert_sheet v = record { formed = w; five = y.1; six = unjudged 6 alert_sheet refl v } in
    seven_published P old (after_alerts f v.1 s)
    (alerts_kept f v.1 s y.0 (elements 256 alert v.1 (right j)) k))

-- A VEHICLE SHEET
pub vehicles_seven : {L : Lengths} → Published L → (old f sheet : List ℕ) (clock : ℤ) (s : State)
    (v : Value vehicle_sheet) → StateKept s → whole vehicle_sheet sheet ≡ some v
    → vehicle_sheet_of L old f clock s v
    ≡ need (feed_ok f && ok 5 vehicle_sheet v) 5
    (need (ok 6 vehicle_sheet v && ok 6 instant clock) 6 (counted (after_vehicles f v.1 clock s)))
unfolding vehicles_ask
vehicles_seven P old f sheet clock s v k is =
    twice (feed_ok f && ok 5 vehicle_sheet v) (ok 6 vehicle_sheet v && ok 6 instant clock) 5 6 _ _ (λ a b.
    let y = both_true (feed_ok f) (ok 5 vehicle_sheet v) a in
    let six = (both_true (ok 6 vehicle_sheet v) (ok 6 instant clock) b).0 in
    let w = whole_formed vehicle_sheet sheet v is in
    let j : Judged56 vehicle_sheet v = record { formed = w; five = y.1; six = six } in
    seven_published P old (after_vehicles f v.1 clock s)
    (vehicles_kept f v.1 clock s y.0 (elements 1024 vehicle_entry v.1 (right j)) k))
