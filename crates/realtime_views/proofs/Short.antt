-- Steps over fields of a stop_time_update whose keys have one byte: eight times the field's number, and the wire type.
-- Assumes nothing.
use Rattle.std.specs.Prelude.{Option, Some}
use Prim.Native.Nat.{ℕ, ◌+◌, ◌-◌, ◌*◌, ◌/◌, ◌%◌, ◌^◌, ◌≤◌, ◌<◌}
use mathlib.Core.Path.{◌≡◌, refl, sym, ◌∙◌}
use mathlib.Core.Bool.{Bool, true, false, ◌||◌}
use mathlib.Core.List.{List}
use native.Mathlib.Omega.{arith}
use native.Mathlib.Numerals.{add-one}
use lib.Dec.{eqb}
use lib.ListN.{length, take, drop, get_or, length-drop}
use lib.Seq.{drop-cons}
use borrow.Author.Tests.{le-leb, lt-ltb, eqb-true}
use Rattle.wire.specs.Wire.{read, digits, varint, key, length_delimited}
use Rattle.wire.specs.Laws.Wire.{stays, reader_varint, reader_text}
use Rattle.wire.specs.Laws.At.{ReadAt, TextAt, number_read, text_read}
use Rattle.wire.specs.Promises.Places.{number_at, text_at}
use Rattle.wire.specs.declared.Cursor.{Cursor}
use Rattle.realtime.specs.Schema.{field_rows, feed, stop_time_update, stop_time_event}
use Rattle.realtime_read.specs.Promises.Steps.{Stepped}
use Rattle.realtime_read.specs.declared.Step.{Step}
use Rattle.realtime_read.proofs.Passing as passing
use Rattle.realtime_read.proofs.Turn.{Here, at_end, some_number, some_text, some_message}
use Rattle.realtime_views.specs.Promises.Last.{taking}
use Rattle.realtime_views.specs.Promises.Numbers.{plain, sequence, is_part, EventReads, NumberReads, StopReads}
use Rattle.realtime_views.specs.Promises.Numbers.{from_stop}
use Rattle.realtime_views.specs.declared.TextPart.{TextPart}
use Rattle.realtime_views.specs.declared.EventNumbers.{EventNumbers}
use Rattle.realtime_views.specs.declared.StopUpdate.{StopUpdate}
use Rattle.realtime_views.proofs.Reader.{Reading, says}
use Rattle.realtime_views.proofs.Stops.{Stops, stops_end, stops_sequence, stops_relationship, stops_stop}
use Rattle.realtime_views.proofs.Stops.{stops_arrival, stops_departure, mine_number, other_number, other_text}
use Rattle.realtime_views.proofs.Stops.{no_message, sequence_number}

short_varint : (s : List ℕ) (at : ℕ) → at < length s → get_or s at 0 < 128
    → varint (drop at s) ≡ read (get_or s at 0) (drop (at + 1) s)
unfolding varint digits
short_varint s at h l = rw (add-one, drop-cons s at 0, lt-ltb (get_or s at 0) 128 l)

short_key : (s : List ℕ) (at n w : ℕ) → at < length s → get_or s at 0 ≡ 8 * n + w → 1 ≤ n → n < 16 → w < 8
    → ReadAt key s at (record { number = n; wire = w }) (at + 1)
unfolding key
short_key s at n w h e l u v =
    let b = get_or s at 0 in
    let p : b / 8 ≡ n = omega arith in
    let q : b % 8 ≡ w = omega arith in
    record {
      same = rw (short_varint s at h (omega arith), le-leb 8 b (omega arith), lt-ltb b (2 ^ 32) (omega arith), p, q);
      inside = omega arith;
    }

module _ {s : List ℕ} {at : ℕ} (h : at < length s) where
  here : {t : ℕ} (n w : ℕ) → get_or s at 0 ≡ 8 * n + w → 1 ≤ n → n < 16 → w < 8 → Here feed t s at n w (at + 1)
  here n w e l u v = passing.here h (short_key s at n w h e l u v)

  -- a number behind the key
  module _ {o : Option (ℕ × Cursor)} {m : ℕ} {c : Cursor} (r : o ≡ number_at s (at + 1)) (g : o ≡ Some (m, c)) where
    sequence_step : get_or s at 0 ≡ 8 → Stepped feed stop_time_update s at (Step.Number 1 m c.at)
    unfolding feed field_rows here
    sequence_step e =
        some_number (here 1 0 e (omega arith) (omega arith) (omega arith)) refl (sym g ∙ r)

    relationship_step : get_or s at 0 ≡ 40 → Stepped feed stop_time_update s at (Step.Number 5 m c.at)
    unfolding feed field_rows here
    relationship_step e =
        some_number (here 5 0 e (omega arith) (omega arith) (omega arith)) refl (sym g ∙ r)

  -- a text behind it
  module _ {o : Option (ℕ × ℕ × Cursor)} {i l : ℕ} {c : Cursor} (r : o ≡ text_at s (at + 1))
      (g : o ≡ Some (i, l, c)) where
    arrival_step : get_or s at 0 ≡ 18 → Stepped feed stop_time_update s at (Step.Message 2 stop_time_event i l c.at)
    unfolding feed field_rows here
    arrival_step e = some_message (here 2 2 e (omega arith) (omega arith) (omega arith)) refl (sym g ∙ r)

    departure_step : get_or s at 0 ≡ 26 → Stepped feed stop_time_update s at (Step.Message 3 stop_time_event i l c.at)
    unfolding feed field_rows here
    departure_step e = some_message (here 3 2 e (omega arith) (omega arith) (omega arith)) refl (sym g ∙ r)

    stop_step : get_or s at 0 ≡ 34 → Stepped feed stop_time_update s at (Step.Text 4 i l c.at)
    unfolding feed field_rows here
    stop_step e = some_text (here 4 2 e (omega arith) (omega arith) (omega arith)) refl (sym g ∙ r)

-- the reading of its sequence
abbrev pub Sequences : List ℕ → ℕ → ℕ → ℕ → Type 0
Sequences s from at n = Reading (plain (λ n. n)) (taking sequence) feed stop_time_update s from 0 at n

-- less is left behind a field, and a text lies inside
module _ {s : List ℕ} {from at n : ℕ} (R : Sequences s from at n) (h : at < length s) where
  module _ {o : Option (ℕ × Cursor)} {m : ℕ} {c : Cursor} (r : o ≡ number_at s (at + 1)) (g : o ≡ Some (m, c)) where
    pub number_less : length s - c.at < length s - at
    number_less =
        let N = number_read s (at + 1) m c (sym g ∙ r) in
        omega (
          arith,
          stays varint reader_varint (drop (at + 1) s) m (drop c.at s) N.same,
          length-drop (at + 1) s,
          length-drop c.at s,
          N.inside,
        )

  module _ {o : Option (ℕ × ℕ × Cursor)} {i l : ℕ} {c : Cursor} (r : o ≡ text_at s (at + 1))
      (g : o ≡ Some (i, l, c)) where
    behind : TextAt s (at + 1) i l c.at
    behind = text_read s (at + 1) i l c (sym g ∙ r)

    pub text_less : length s - c.at < length s - at
    text_less =
        omega (
          arith,
          stays length_delimited reader_text (drop (at + 1) s) (take l (drop i s)) (drop c.at s) behind.same,
          length-drop (at + 1) s,
          length-drop c.at s,
          behind.inside,
        )

    pub text_inside : 0 + c.at ≤ length s
    text_inside = omega (arith, behind.inside)

-- the loop over a stop_time_update
module _ {s : List ℕ} {from at q : ℕ} {p : TextPart} {k : ℕ} {a d : EventNumbers} (R : Stops s from at q p k a d) where
  pub short_end : {r : StopUpdate} → length s ≤ at → r ≡ from_stop q p k a d → StopReads s from r
  short_end h e = stops_end R (at_end refl h) e

  module _ (h : at < length s) where
    module _ {o : Option (ℕ × Cursor)} {m : ℕ} {c : Cursor} (r : o ≡ number_at s (at + 1)) (g : o ≡ Some (m, c)) where
      pub short_sequence : get_or s at 0 ≡ 8 → Stops s from c.at m p k a d
      short_sequence e = stops_sequence R (sequence_step h r g e) refl

      pub short_relationship : get_or s at 0 ≡ 40 → Stops s from c.at q p m a d
      short_relationship e = stops_relationship R (relationship_step h r g e) refl

    module _ {o : Option (ℕ × ℕ × Cursor)} {i l : ℕ} {c : Cursor} (r : o ≡ text_at s (at + 1))
        (g : o ≡ Some (i, l, c)) where
      pub short_stop : get_or s at 0 ≡ 34 → Stops s from c.at q (record { start = i; len = l }) k a d
      short_stop e = stops_stop R (stop_step h r g e) refl

      module _ {x : List ℕ} (y : x ≡ take c.at s) {z : EventNumbers} where
        pub short_arrival : get_or s at 0 ≡ 18 → EventReads x i a z → Stops s from c.at q p k z d
        short_arrival e Q = stops_arrival R (arrival_step h r g e) x refl y Q

        pub short_departure : get_or s at 0 ≡ 26 → EventReads x i d z → Stops s from c.at q p k a z
        short_departure e Q = stops_departure R (departure_step h r g e) x refl y Q

-- the loop for its sequence alone
module _ {s : List ℕ} {from at n : ℕ} (R : Sequences s from at n) where
  pub sequences_end : length s ≤ at → NumberReads s from stop_time_update 1 n
  sequences_end h = says R (at_end refl h)

  module _ (h : at < length s) where
    module _ {o : Option (ℕ × Cursor)} {m : ℕ} {c : Cursor} (r : o ≡ number_at s (at + 1)) (g : o ≡ Some (m, c)) where
      pub next_sequence : get_or s at 0 ≡ 8 → Sequences s from c.at m
      next_sequence e = mine_number sequence R (sequence_step h r g e) refl refl tt

      pub past_relationship : get_or s at 0 ≡ 40 → Sequences s from c.at n
      past_relationship e = other_number sequence R (relationship_step h r g e) (λ z. omega arith)

    module _ {o : Option (ℕ × ℕ × Cursor)} {i l : ℕ} {c : Cursor} (r : o ≡ text_at s (at + 1))
        (g : o ≡ Some (i, l, c)) where
      pub past_part : {b : Bool} → b ≡ is_part (get_or s at 0) → b ≡ true → Sequences s from c.at n
      past_part e t = go (eqb (get_or s at 0) 18) refl (eqb (get_or s at 0) 26) refl (eqb (get_or s at 0) 34) refl
          (sym e ∙ t)
        where
          go : (x : Bool) → eqb (get_or s at 0) 18 ≡ x → (y : Bool) → eqb (get_or s at 0) 26 ≡ y
              → (z : Bool) → eqb (get_or s at 0) 34 ≡ z → (x || (y || z)) ≡ true → Sequences s from c.at n
          go true u y v z w f = no_message sequence R (arrival_step h r g (eqb-true (get_or s at 0) 18 u))
          go false u true v z w f = no_message sequence R (departure_step h r g (eqb-true (get_or s at 0) 26 v))
          go false u false v true w f =
              let S = stop_step h r g (eqb-true (get_or s at 0) 34 w) in
              other_text sequence R S (sequence_number 4 S.typed)
          go false u false v false w f = let z : ◌≡◌ {A = ℕ} 0 1 = cc in absurd (omega arith)
