-- Law. An opened buffer's state taken apart: where it stands, and what holds of each feed and of each trip.
use Rattle.std.specs.Prelude.{◌≡◌, refl, true, ◌&&◌, List, ℕ, ◌≤◌, leb, length, Option, Some, None}
use Rattle.std.proofs.Common.{sym, ◌∙◌, arith, leb-true}
use Rattle.std.proofs.Math.Option.{Option as LogicOption, none, some}
use Rattle.std.proofs.Math.Seq.{take-append_seam}
use Rattle.basics.specs.Lists.{All, all}
use Rattle.basics.specs.Laws.Booleans.{both_true}
use Rattle.maps.specs.Map.{get, ascending}
use Rattle.maps.specs.Order.{texts, numbers}
use Rattle.maps.proofs.Laws.Order.{texts_order}
use Rattle.formats.specs.Class.{Class, printable, token, in_class}
use Rattle.formats.specs.Format.{Format, number, small, text, list, optional, ◌&◌, Value, write}
use Rattle.formats_check.specs.Promises.Checked.{fine}
use Rattle.formats_read.specs.Promises.Here.{Here}
use Rattle.decode.specs.Sizes.{key_bytes}
use Rattle.decode.specs.Trip.{Trip, trip, trip_entry, delay, date, id, number32, time, stop_update, updates_of}
use Rattle.decode.specs.Key.{key_ok}
use Rattle.alerts.specs.Alert.{alert}
use Rattle.overlay.specs.State.{State, Feed, timestamp, vehicle_entry, feed_entry, overlay, feeds_of}
use Rattle.overlay.specs.State.{trips_of, vehicles_of, alerts_of}
use Rattle.overlay.specs.Valid.{trip_valid, count_valid, feed_valid, valid}
use Rattle.overlay.specs.Image.{filled, image, state_of}
use Rattle.overlay.proofs.Laws.Buffer.{state_buffer, ValidParts, valid_parts}
use Rattle.overlay.proofs.Laws.EveryEntry.{each_of, each_map, each_both, get_each}
use Rattle.overlay_open.specs.Promises.Opened.{ending}
use Rattle.overlay_open.specs.Promises.Held.{Open, HeldTrip, HeldFeed}
use Rattle.overlay_open.specs.Laws.Fine.{within_fine}

-- WHERE THE STATE STANDS
pub opened_valid : (b : List ℕ) (s : State) → state_of b ≡ some s → valid s ≡ true
opened_valid b s e = (state_buffer b s e).held.valid

pub opened_here : (b : List ℕ) (s : State) → state_of b ≡ some s → Here overlay b 0 (length (write overlay s)) s
unfolding image filled
opened_here b s e =
    let B = state_buffer b s e in
    record {
      written = rw B.is (take-append_seam (write overlay s) _);
      fits = B.held.fits;
      forward = omega arith;
      within = B.room;
    }

-- what an answer says
pub open_at : {b : List ℕ} {r : Option ℕ} {p : ℕ} → r ≡ ending (state_of b) → r ≡ Some p → Open b p
open_at {b} {r} {p} e h = go (state_of b) refl (sym h ∙ e)
  where
    go : (o : LogicOption State) → state_of b ≡ o → Some p ≡ ending o → Open b p
    go none i j = absurd (let z : ◌≡◌ {A = ℕ} 0 1 = cc in omega arith)
    go (some s) i j =
        let k : p ≡ length (write overlay s) = cc in
        record { state = s; is = i; here = rw k (opened_here b s i); valid = opened_valid b s i }

pub open_no : (b : List ℕ) {r : Option ℕ} → r ≡ ending (state_of b) → r ≡ None → state_of b ≡ none
open_no b e h = go (state_of b) (sym h ∙ e)
  where
    go : (o : LogicOption State) → None ≡ ending o → o ≡ none
    go none j = refl
    go (some s) j = absurd (let z : ◌≡◌ {A = ℕ} 0 1 = cc in omega arith)

-- THE PARTS OF A VALUE whose annotations hold
text_short : (l : ℕ) (c : Class) (v : List ℕ) → fine (text l c) v ≡ true → length v ≤ l
text_short l c v h = leb-true (length v) l (both_true (leb (length v) l) (in_class c v) h).0

text_class : (l : ℕ) (c : Class) (v : List ℕ) → fine (text l c) v ≡ true → in_class c v ≡ true
text_class l c v h = (both_true (leb (length v) l) (in_class c v) h).1

list_few : (l : ℕ) (f : Format) (v : List (Value f)) → fine (list l f) v ≡ true → length v ≤ l
list_few l f v h = leb-true (length v) l (both_true (leb (length v) l) (all (fine f) v) h).0

list_each : (l : ℕ) (f : Format) (v : List (Value f)) → fine (list l f) v ≡ true → All (λ x. fine f x ≡ true) v
list_each l f v h = each_of (fine f) v (both_true (leb (length v) l) (all (fine f) v) h).1

module _ (a b : Format) (v : Value (a & b)) (h : fine (a & b) v ≡ true) where
  front : fine a v.0 ≡ true
  front = (both_true (fine a v.0) (fine b v.1) h).0

  rest : fine b v.1 ≡ true
  rest = (both_true (fine a v.0) (fine b v.1) h).1

-- A TRIP
abbrev updates : Format
updates = list 128 (number32 & stop_update)

trip_held : (f : List ℕ) (e : List ℕ × Trip) → fine trip_entry e ≡ true → trip_valid f e ≡ true → HeldTrip f e
trip_held f e h v =
    let k = front (text 137 printable) trip e h in
    let t = rest (text 137 printable) trip e h in
    let w = both_true (key_ok f e.0 e.1) (ascending numbers (updates_of e.1)) v in
    let a = rest (optional delay) (small 1 & date & id & optional number32 & time & updates) e.1 t in
    let b = rest date (id & optional number32 & time & updates) e.1.1.1 a in
    let c = rest id (optional number32 & time & updates) e.1.1.1.1 b in
    let d = rest (optional number32) (time & updates) e.1.1.1.1.1 c in
    record {
      short = text_short 137 printable e.0 k;
      text = text_class 137 printable e.0 k;
      key = w.0;
      fine = t;
      up = w.1;
      few = list_few 128 (number32 & stop_update) (updates_of e.1) (rest time updates e.1.1.1.1.1.1 d);
    }

-- A FEED
abbrev vehicles_on : Format
vehicles_on = list 1024 vehicle_entry & list 256 alert

abbrev trips_on : Format
trips_on = list 2048 trip_entry & vehicles_on

feed_held : (e : List ℕ × Feed) → fine feed_entry e ≡ true → feed_valid e ≡ true → HeldFeed e
unfolding feed_valid
feed_held (f, F) h v =
    let n = front (text 16 token) (optional timestamp & number 0 2048 & trips_on) (f, F) h in
    let a = rest (text 16 token) (optional timestamp & number 0 2048 & trips_on) (f, F) h in
    let b = rest (optional timestamp) (number 0 2048 & trips_on) F a in
    let c = rest (number 0 2048) trips_on F.1 b in
    let t = front (list 2048 trip_entry) vehicles_on F.1.1 c in
    let d = rest (list 2048 trip_entry) vehicles_on F.1.1 c in
    let x = front (list 1024 vehicle_entry) (list 256 alert) F.1.1.1 d in
    let y = rest (list 1024 vehicle_entry) (list 256 alert) F.1.1.1 d in
    let p = both_true (ascending texts (trips_of F))
    (all (trip_valid f) (trips_of F) && (ascending texts (vehicles_of F) && count_valid f F)) v in
    let q = both_true (all (trip_valid f) (trips_of F)) (ascending texts (vehicles_of F) && count_valid f F) p.1 in
    let r = both_true (ascending texts (vehicles_of F)) (count_valid f F) q.1 in
    record {
      short = text_short 16 token f n;
      id = text_class 16 token f n;
      trips = each_both (trip_held f) (trips_of F) (list_each 2048 trip_entry (trips_of F) t)
          (each_of (trip_valid f) (trips_of F) q.0);
      trips_up = p.0;
      trips_few = list_few 2048 trip_entry (trips_of F) t;
      vehicles = list_each 1024 vehicle_entry (vehicles_of F) x;
      vehicles_up = r.0;
      vehicles_few = list_few 1024 vehicle_entry (vehicles_of F) x;
      alerts = list_each 256 alert (alerts_of F) y;
      alerts_few = list_few 256 alert (alerts_of F) y;
      count = r.1;
    }

-- its keys are short enough for a slot of the index
pub short_keys : {e : List ℕ × Feed} → HeldFeed e → All (λ t. length t.0 ≤ key_bytes) (trips_of e.1)
short_keys {e} H = each_map (λ t h. h.short) (trips_of e.1) H.trips

-- THE STATE
module _ (s : State) (h : valid s ≡ true) where
  parts : ValidParts s
  parts = valid_parts s h

  fine_state : fine overlay s ≡ true
  fine_state = sym (within_fine overlay s) ∙ rw (parts.five, parts.six, parts.seven) refl

  fine_feeds : fine (list 4 feed_entry) (feeds_of s) ≡ true
  fine_feeds = rest (number 0 18446744073709551615) (list 4 feed_entry) s.1 fine_state

  pub feeds_up : ascending texts (feeds_of s) ≡ true
  feeds_up = parts.up

  pub feeds_few : length (feeds_of s) ≤ 4
  feeds_few = list_few 4 feed_entry (feeds_of s) fine_feeds

  pub feeds_held : All HeldFeed (feeds_of s)
  feeds_held =
      each_both feed_held (feeds_of s) (list_each 4 feed_entry (feeds_of s) fine_feeds)
      (each_of feed_valid (feeds_of s) parts.feeds)

  -- the feed of an id
  pub feed_found : (f : List ℕ) (F : Feed) → get texts f (feeds_of s) ≡ some F → HeldFeed (f, F)
  feed_found f F e = get_each texts_order HeldFeed f F (feeds_of s) feeds_held e
