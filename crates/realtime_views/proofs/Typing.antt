-- What the typed answers of the scalars say is what the trees say. Assumes nothing.
use Rattle.std.specs.Prelude.{Option as Answer, Some, None}
use Rattle.std.specs.Option.{unwrap_or}
use Prim.Native.Nat.{ℕ, ◌+◌, ◌≤◌}
use mathlib.Core.Path.{◌≡◌, refl, sym, ap, subst, ◌∙◌}
use mathlib.Core.List.{List, [], ◌∷◌}
use mathlib.Core.Bool.{Bool}
use mathlib.Core.Option.{Option, none, some, map}
use native.Mathlib.Omega.{arith}
use lib.Dec.{eqb}
use lib.ListN.{length, take, drop, length-take}
use lib.Seq.{take-length}
use Rattle.realtime.specs.Tree.{a_number, a_message, Schema, Tree, Leaf, count, words, last, sub, tree}
use Rattle.realtime.specs.Schema.{field_rows, feed, feed_message, feed_header, feed_entity, stop_time_update}
use Rattle.realtime_views.specs.Laws.Fold.{inside_sub}
use Rattle.realtime_views.specs.Promises.Fold.{Takes, folded, inside}
use Rattle.realtime_views.specs.Laws.Reading.{front_rest}
use Rattle.realtime_views.specs.Promises.Reading.{Lens, Reads}
use Rattle.realtime_views.specs.Laws.Scalars.{leaf_is, Lasting}
use Rattle.realtime_views.specs.Laws.Spans.{span_says, span_inside}
use Rattle.realtime_views.specs.Promises.Scalars.{one, two, three, four, five, six, said, scalar}
use Rattle.realtime_views.specs.Promises.Scalars.{is_scalar, blank, FieldReads, ScalarRead}
use Rattle.realtime_views.specs.Promises.Scalars.{scalar_at, OneReads, OneReadsIn, OneRead, OneReadIn}
use Rattle.realtime_views.specs.Laws.Last.{leaf, taking_last}
use Rattle.realtime_views.specs.Promises.Last.{taking}
use Rattle.realtime_views.specs.Promises.Numbers.{or_zero_at, single_text, single_number, plain, spans, value_of}
use Rattle.realtime_views.specs.Promises.Numbers.{no_number, no_span, from_delay, from_event, from_time}
use Rattle.realtime_views.specs.Promises.Numbers.{EventsRead, NumberReads}
use Rattle.realtime_views.specs.Promises.Numbers.{LastNumber, StopReads}
use Rattle.realtime.specs.Typed.{uint32, int32, int64, bool, enum, number_in, text_in, or_zero}
use Rattle.basics.specs.Options.{some_and}
use Rattle.realtime_views.specs.Promises.Narrow.{to_timestamp, to_direction, to_delay, is_value, to_header}
use Rattle.realtime_views.specs.Promises.Narrow.{to_trip}
use Rattle.realtime.specs.Views.{event}
use Rattle.realtime_views.specs.Promises.Views.{part_in, view_timestamp, view_direction, view_delay, view_time}
use Rattle.realtime_views.specs.Promises.Views.{view_event, HeaderRead, DeletedRead, TripRead}
use Rattle.realtime_views.specs.Promises.Views.{StopRead, SequenceRead}
use Rattle.realtime_views.specs.declared.Scalar.{Scalar}
use Rattle.realtime_views.specs.declared.Scalars.{Scalars}
use Rattle.realtime_views.specs.declared.TextPart.{TextPart}
use Rattle.realtime_views.specs.declared.EventNumbers.{EventNumbers}
use Rattle.realtime_views.specs.declared.Header.{Header}
use Rattle.realtime_views.specs.declared.Trip.{Trip}
use Rattle.realtime_views.specs.declared.StopUpdate.{StopUpdate}
use Rattle.realtime_views.proofs.Reader.{lasting_whole}

-- of one scalar
module _ (s : List ℕ) where
  timestamp_says : (x : Scalar) → view_timestamp (to_timestamp x) ≡ number_in (said s x)
  timestamp_says (Scalar.Number n) = refl
  timestamp_says (Scalar.Text i l) = refl
  timestamp_says Scalar.Nothing = refl

  direction_says : (x : Scalar) → view_direction (to_direction x) ≡ map uint32 (number_in (said s x))
  direction_says (Scalar.Number n) = refl
  direction_says (Scalar.Text i l) = refl
  direction_says Scalar.Nothing = refl

  delay_says : (x : Scalar) → view_delay (to_delay x) ≡ map int32 (number_in (said s x))
  delay_says (Scalar.Number n) = refl
  delay_says (Scalar.Text i l) = refl
  delay_says Scalar.Nothing = refl

  value_says : (v : ℕ) (x : Scalar) → is_value v x ≡ some_and (λ n. eqb (enum n) v) (number_in (said s x))
  value_says v (Scalar.Number n) = refl
  value_says v (Scalar.Text i l) = refl
  value_says v Scalar.Nothing = refl

-- of a message
header_listed : feed feed_message 1 ≡ some (a_message feed_header)
unfolding feed field_rows
header_listed = refl

pub header_read : {s : List ℕ} {d h : Scalars} {r : Header} → d ≡ blank → FieldReads 1 feed_header s 0 d h
    → r ≡ to_header h → HeaderRead feed s r
header_read {s} {d} {h} {r} b F e =
    let L = lasting_whole s (1 ∷ []) b (record { made = F.of feed_message header_listed; within = F.within }) in
    subst (HeaderRead feed s) (sym e) (record {
      of = λ m q.
          let p = L.of m (ap (tree feed feed_message) (take-length s) ∙ q) in
          λ j. record {
            differential = (value_says s 1 h.f2 ∙ ap (λ o. some_and (λ n. eqb (enum n) 1) (number_in o)) (p two)) j;
            timestamp = (timestamp_says s h.f3 ∙ ap number_in (p three)) j;
          };
    })

pub trip_read : {σ : Schema} {s : List ℕ} {i l : ℕ} {d : Scalars} {u : Scalar} {r : Trip}
    → Lasting σ feed_entity s i l (3 ∷ 1 ∷ []) d → ScalarRead σ feed_entity s i l (sub 3) 5 u
    → r ≡ to_trip d u → TripRead σ s i l r
trip_read {σ} {s} {i} {l} {d} {u} {r} L U e = subst (TripRead σ s i l) (sym e) (record {
  of = λ m q.
      let p = L.of m q in
      λ j. record {
        id = (span_says s d.f1 ∙ ap text_in (p one)) j;
        time = (span_says s d.f2 ∙ ap text_in (p two)) j;
        date = (span_says s d.f3 ∙ ap text_in (p three)) j;
        route = (span_says s d.f5 ∙ ap text_in (p five)) j;
        cancelled = (value_says s 3 d.f4 ∙ ap (λ o. some_and (λ n. eqb (enum n) 3) (number_in o)) (p four)) j;
        direction = (direction_says s d.f6 ∙ ap (λ o. map uint32 (number_in o)) (p six)) j;
        delay = (delay_says s u ∙ ap (λ o. map int32 (number_in o)) (U.of m q)) j;
      };
  id = span_inside (length s) d.f1 (L.within one);
  time = span_inside (length s) d.f2 (L.within two);
  date = span_inside (length s) d.f3 (L.within three);
  route = span_inside (length s) d.f5 (L.within five);
})

-- an answer in the first bytes of s, up to the message's end, says what the whole's tree makes
module _ {D B : Type 0} {L : Lens D B} {φ : Takes B} {t : ℕ} (s : List ℕ) {x : List ℕ} (i l : ℕ) {d r : D}
    (h : i + l ≤ length s) (e : x ≡ take (i + l) s) (Q : Reads L φ feed t x i d r) where
  room : L.In (i + l) r
  room = subst (λ k. L.In k r) (ap length e ∙ length-take (i + l) s ∙ omega arith) Q.within

  room_far : L.In (length s) r
  room_far = L.far (i + l) (length s) r h room

  made_of : (m : Tree) → tree feed t (take l (drop i s)) ≡ some m → L.look s r ≡ folded φ (L.look x d) m
  made_of m q =
      sym (ap (λ y. L.look y r) e ∙ L.front s (i + l) r h room)
      ∙ Q.made.of m (ap (tree feed t) (ap (drop i) e ∙ front_rest s (i + l) i l refl h) ∙ q)

-- of one field, of the message itself or of those at a field merged
pub scalar_read : {k : ℕ} (s : List ℕ) {x : List ℕ} (i l : ℕ) {r : Scalar} → i + l ≤ length s → x ≡ take (i + l) s
    → OneReads k x i Scalar.Nothing r → OneRead k s i l r
scalar_read {k} s {x} i l {r} h e O t p =
    let Q : Reads scalar (taking (scalar_at k)) feed t x i Scalar.Nothing r =
    record { made = O.of t p; within = O.within } in
    record {
      of = λ m q. made_of s i l h e Q m q ∙ taking_last (scalar_at k) none m ∙ leaf_is k (last k m);
      within = room_far s i l h e Q;
    }

pub merged_read : {t k : ℕ} (a : ℕ) (s : List ℕ) {x : List ℕ} (i l : ℕ) {r : Scalar} → i + l ≤ length s
    → x ≡ take (i + l) s → Reads scalar (inside a (taking (scalar_at k))) feed t x i Scalar.Nothing r
    → ScalarRead feed t s i l (sub a) k r
merged_read {t} {k} a s i l h e Q = record {
  of = λ m q. made_of s i l h e Q m q ∙ inside_sub a (taking (scalar_at k)) none m
      ∙ taking_last (scalar_at k) none (sub a m) ∙ leaf_is k (last k (sub a m));
  within = room_far s i l h e Q;
}

pub scalar_read_in : {a k : ℕ} (s : List ℕ) {x : List ℕ} (i l : ℕ) {r : Scalar} → i + l ≤ length s
    → x ≡ take (i + l) s → OneReadsIn a k x i Scalar.Nothing r → OneReadIn a k s i l r
scalar_read_in s i l h e O t u p v = merged_read _ s i l h e (record { made = O.of t u p v; within = O.within })

-- of the numbers and the text of a stop_time_update
leaf_zero : (k : ℕ) (o : Option Leaf) → leaf (or_zero_at k) 0 o ≡ or_zero (number_in o)
leaf_zero k none = refl
leaf_zero k (some (count n)) = refl
leaf_zero k (some (words x)) = refl

-- the number of the last scalar, 0 where it is none
or_zero_is : (s : List ℕ) (x : Scalar) → unwrap_or (to_timestamp x) 0 ≡ or_zero (number_in (said s x))
or_zero_is s (Scalar.Number n) = refl
or_zero_is s (Scalar.Text i l) = refl
or_zero_is s Scalar.Nothing = refl

pub last_number : {k : ℕ} {s : List ℕ} {from : ℕ} {x : Scalar} {o : Answer ℕ} {n : ℕ}
    → OneReads k s from Scalar.Nothing x → o ≡ to_timestamp x → n ≡ unwrap_or o 0 → LastNumber k s from n
last_number {k} {s} {from} {x} O e h t p = record {
  made = record {
    of = λ m q.
        h ∙ ap (λ o. unwrap_or o 0) e ∙ or_zero_is s x
        ∙ ap (λ o. or_zero (number_in o))
        ((O.of t (ap is_scalar p)).of m q ∙ taking_last (scalar_at k) none m
        ∙ leaf_is k (last k m))
        ∙ sym (leaf_zero k (last k m)) ∙ sym (taking_last (or_zero_at k) 0 m);
  };
  within = tt;
}

leaf_text : (k : ℕ) (o : Option Leaf) → leaf (single_text k) [] o ≡ text_in o
leaf_text k none = refl
leaf_text k (some (count n)) = refl
leaf_text k (some (words x)) = refl

leaf_given : (k : ℕ) (o : Option Leaf) → leaf (single_number k) none o ≡ number_in o
leaf_given k none = refl
leaf_given k (some (count n)) = refl
leaf_given k (some (words x)) = refl

value_given : (o : Option ℕ) → eqb (enum (or_zero o)) 1 ≡ some_and (λ n. eqb (enum n) 1) o
value_given none = refl
value_given (some n) = refl

delay_view : (n : Answer ℕ) → view_delay (from_delay n) ≡ map int32 (value_of n)
delay_view (Some n) = refl
delay_view None = refl

time_view : (n : Answer ℕ) → view_time (from_time n) ≡ map int64 (value_of n)
time_view (Some n) = refl
time_view None = refl

zero_of : (t k : ℕ) (s : List ℕ) {x : List ℕ} (i l : ℕ) → i + l ≤ length s → x ≡ take (i + l) s → (m : Tree)
    → tree feed t (take l (drop i s)) ≡ some m → {r : ℕ}
    → NumberReads x i t k r → r ≡ or_zero (number_in (last k m))
zero_of t k s i l h e m q Q = made_of s i l h e Q m q ∙ taking_last (or_zero_at k) 0 m ∙ leaf_zero k (last k m)

module _ (s : List ℕ) {x : List ℕ} (i l : ℕ) (h : i + l ≤ length s) (e : x ≡ take (i + l) s) (m : Tree)
    (q : tree feed stop_time_update (take l (drop i s)) ≡ some m) where
  text_of : (k : ℕ) {r : TextPart} → Reads spans (taking (single_text k)) feed stop_time_update x i no_span r
      → part_in s r ≡ text_in (last k m)
  text_of k Q = made_of s i l h e Q m q ∙ taking_last (single_text k) [] m ∙ leaf_text k (last k m)

  given_of : (j k : ℕ) {r : Answer ℕ}
      → Reads (plain value_of) (inside j (taking (single_number k))) feed stop_time_update x i no_number r
      → value_of r ≡ number_in (last k (sub j m))
  given_of j k Q =
      made_of s i l h e Q m q ∙ inside_sub j (taking (single_number k)) none m
      ∙ taking_last (single_number k) none (sub j m) ∙ leaf_given k (last k (sub j m))

  event_of : (j : ℕ) {r : EventNumbers} → EventsRead j x i r → view_event (from_event r) ≡ event (sub j m)
  event_of j {r} E = λ z. record {
    delay = (delay_view r.delay ∙ ap (map int32) (given_of j 1 E.delay)) z;
    time = (time_view r.time ∙ ap (map int64) (given_of j 2 E.time)) z;
  }

pub stop_read : (s : List ℕ) {x : List ℕ} (i l : ℕ) {r : StopUpdate} → i + l ≤ length s → x ≡ take (i + l) s
    → StopReads x i r → StopRead feed s i l r
stop_read s i l h e R = subst (StopRead feed s i l) (sym R.is) (record {
  of = λ m q. λ z. record {
    sequence = ap uint32 (zero_of stop_time_update 1 s i l h e m q R.sequence) z;
    stop = text_of s i l h e m q 4 R.stop z;
    arrival = event_of s i l h e m q 2 R.arrival z;
    departure = event_of s i l h e m q 3 R.departure z;
    skipped =
        (ap (λ k. eqb (enum k) 1) (zero_of stop_time_update 5 s i l h e m q R.relationship)
        ∙ value_given (number_in (last 5 m))) z;
  };
  stop = room_far s i l h e R.stop;
})

pub sequence_listed : feed stop_time_update 1 ≡ some a_number
unfolding feed field_rows
sequence_listed = refl

pub sequence_read : (s : List ℕ) {x : List ℕ} (i l : ℕ) {n r : ℕ} → i + l ≤ length s → x ≡ take (i + l) s
    → NumberReads x i stop_time_update 1 n → r ≡ uint32 n → SequenceRead feed s i l r
sequence_read s i l h e Q g = record { of = λ m q. g ∙ ap uint32 (zero_of stop_time_update 1 s i l h e m q Q) }

mark_given : (o : Option ℕ) → bool (or_zero o) ≡ some_and bool o
mark_given none = refl
mark_given (some n) = refl

pub deleted_read : (s : List ℕ) {x : List ℕ} (i l : ℕ) {n : ℕ} {r : Bool} → i + l ≤ length s → x ≡ take (i + l) s
    → LastNumber 2 x i n → r ≡ bool n → DeletedRead feed s i l r
unfolding feed field_rows
deleted_read s i l h e Q g = record {
  of = λ m q. g ∙ ap bool (zero_of feed_entity 2 s i l h e m q (Q feed_entity refl))
      ∙ mark_given (number_in (last 2 m));
}
