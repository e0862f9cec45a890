-- Law. A valid state whose writing is of the published length: the bound of `valid-room` is met.
use Rattle.std.specs.Prelude.{◌≡◌, Bool, true, false, ◌||◌, List, [], ◌∷◌, ◌++◌, ℕ, zero, suc, ◌+◌, ◌/◌, ◌%◌, ◌≤◌, ◌<◌, length, replicate, ltb, eqb}
use Rattle.std.proofs.Math.Path.{refl}
use Rattle.std.proofs.Common.{◌∙◌, inr, arith, le-leb, le-ltb, ltb-true, ltb-false, ne_eqb}
use Rattle.formats.specs.Class.{printable, token, allowed}
use Rattle.basics.specs.Lists.{all}
use Rattle.formats.specs.Format.{small, text, list, optional, constant, ◌&◌, write}
use Rattle.slices.specs.Lists.{lex_of}
use Rattle.std.specs.declared.cmp.Ordering.TheVariants.{Less}
use Rattle.decode.specs.Trip.{trip_entry, Trip, StopUpdate, id, delay, number32, stop_update, trip, trip_with}
use Rattle.maps.specs.Map.{ascending}
use Rattle.maps.specs.Order.{texts, numbers}
use Rattle.maps.proofs.Laws.Order.{cons_before}
use Rattle.decode.specs.Key.{direction_text, tail_of, incomplete_key}
use Rattle.decode.specs.Leaves as leaves
use Rattle.alerts.specs.Alert.{alert}
use Rattle.overlay.proofs.Laws.Keys.{or_right, incomplete_ok}
use Rattle.overlay.specs.State.{State, Feed, Vehicle, overlay, feed_entry, vehicle, vehicle_entry, timestamp}
use Rattle.overlay.specs.State.{feed_with, state_with}
use Rattle.overlay.specs.Valid.{trip_valid, feed_valid, valid, Held}
use Rattle.overlay.proofs.Laws.Within.{both}
use Rattle.overlay.specs.Buffer.{published}
use Rattle.overlay.proofs.Laws.Buffer.{parts_valid, published_capacity}
use Rattle.overlay.proofs.Laws.Table.{table, table_length, table_all, table_ascending}
use Rattle.overlay.proofs.Laws.Dates.{day}
use Rattle.overlay.proofs.Laws.Fills.{Fills, most, most_fills, number_fills, greatest_fills, text_fills}
use Rattle.overlay.proofs.Laws.Fills.{given_fills, pair_fills, table_fills}

-- the i-th name of n + 2 bytes: two digits of base 64, and letters
abbrev pub long_name : ℕ → ℕ → List ℕ
long_name n i = (48 + i / 64) ∷ (48 + i % 64) ∷ replicate n 97

-- its class, with what comes behind it
module _ (p : ℕ → Bool) (h : p 97 ≡ true) (s : List ℕ) (e : all p s ≡ true) where
  letters_all : (n : ℕ) → all p (replicate n 97 ++ s) ≡ true
  letters_all zero = e
  letters_all (suc n) = both h (letters_all n)

  name_all : (n i : ℕ) → p (48 + i / 64) ≡ true → p (48 + i % 64) ≡ true → all p (long_name n i ++ s) ≡ true
  name_all n i a b = both a (both b (letters_all n))

digit_printable : (b : ℕ) → 32 ≤ b → b ≤ 126 → allowed printable b ≡ true
digit_printable b l m = both (le-leb 32 b l) (le-leb b 126 m)

name_printable : (n i : ℕ) (s : List ℕ) → i < 2048 → all (allowed printable) s ≡ true
    → all (allowed printable) (long_name n i ++ s) ≡ true
name_printable n i s l e =
    name_all (allowed printable) refl s e n i
    (digit_printable (48 + i / 64) (omega arith) (omega arith))
    (digit_printable (48 + i % 64) (omega arith) (omega arith))

digit_token : (b : ℕ) → 33 ≤ b → b < 58 → allowed token b ≡ true
digit_token b l m = rw (le-leb 33 b l, le-leb b 126 (omega arith), ne_eqb b 58 (omega arith)) refl

-- what two texts have in front in common does not count
level : (p a b : List ℕ) → lex_of (p ++ a) (p ++ b) ≡ lex_of a b
unfolding lex_of
level [] a b = refl
level (x ∷ p) a b = rw (le-ltb x x (omega arith)) (level p a b)

-- names ascend, whatever comes behind them
name_before : (i : ℕ) (s t : List ℕ)
    → lex_of ((48 + i / 64) ∷ (48 + i % 64) ∷ s) ((48 + suc i / 64) ∷ (48 + suc i % 64) ∷ t) ≡ Less
name_before i s t = go (ltb (i % 64) 63) refl
  where
    go : (u : Bool) → ltb (i % 64) 63 ≡ u
        → lex_of ((48 + i / 64) ∷ (48 + i % 64) ∷ s) ((48 + suc i / 64) ∷ (48 + suc i % 64) ∷ t) ≡ Less
    go true e =
        let l = ltb-true (i % 64) 63 e in
        let same : 48 + suc i / 64 ≡ 48 + i / 64 = omega arith in
        rw same (level ((48 + i / 64) ∷ []) ((48 + i % 64) ∷ s) ((48 + suc i % 64) ∷ t)
        ∙ cons_before (48 + i % 64) (48 + suc i % 64) s t (omega arith))
    go false e =
        cons_before (48 + i / 64) (48 + suc i / 64) ((48 + i % 64) ∷ s) ((48 + suc i % 64) ∷ t)
        (omega (arith, ltb-false (i % 64) 63 e))

id_fills : (i : ℕ) → i < 2048 → Fills id (long_name 62 i)
id_fills i l = text_fills 64 printable (long_name 62 i) (omega arith) refl (name_printable 62 i [] l refl)

-- 128 updates, up to the greatest sequence
abbrev pub full_update : ℕ → ℕ × StopUpdate
full_update j = (4294967168 + j, most stop_update refl)

unfoldable pub updates : List (ℕ × StopUpdate)
updates = table full_update 0 128

updates_fill : Fills (list 128 (number32 & stop_update)) updates
unfolding updates
updates_fill =
    table_fills (number32 & stop_update) full_update 128 (omega arith) (omega arith)
    (λ j l. pair_fills
    (number_fills 4294967295 4294967168 (4294967168 + j) (omega arith) (omega arith) (omega arith) refl)
    (most_fills stop_update refl))

updates_ascend : ascending numbers updates ≡ true
unfolding updates
updates_ascend =
    table_ascending numbers full_update (λ j. cons_before (4294967168 + j) (4294967168 + suc j) [] [] (omega arith)) 0
    128

-- the trip of route i; and at its incomplete key in feed k
abbrev pub full_trip : ℕ → Trip
full_trip i =
    trip_with (most (optional delay) refl) (most (small 1) refl) day (long_name 62 i) (inr 4294967295) day updates

trip_fills : (i : ℕ) → i < 2048 → Fills trip (full_trip i)
trip_fills i l =
    let d = text_fills 16 printable day (omega arith) refl refl in
    pair_fills (most_fills (optional delay) refl)
    (pair_fills (most_fills (small 1) refl)
    (pair_fills d
    (pair_fills (id_fills i l)
    (pair_fills (given_fills (greatest_fills 4294967295 (omega arith)))
    (pair_fills d updates_fill)))))

abbrev pub full_entry : ℕ → ℕ → List ℕ × Trip
full_entry k i = (incomplete_key (long_name 14 k) (full_trip i), full_trip i)

-- what follows the route in its key
abbrev behind : List ℕ
behind = (38 ∷ 100 ∷ 61 ∷ []) ++ direction_text (inr 4294967295) ++ tail_of day day

module _ (k : ℕ) where
  key_fills : k < 4 → (i : ℕ) → i < 2048 → Fills (text 137 printable) (incomplete_key (long_name 14 k) (full_trip i))
  unfolding incomplete_key
  key_fills m i l =
      text_fills 137 printable (incomplete_key (long_name 14 k) (full_trip i)) (omega arith) refl
      (name_printable 14 k (58 ∷ (long_name 62 i ++ behind)) (omega arith) (name_printable 62 i behind l refl))

  keys_ascend : (i : ℕ) → lex_of (incomplete_key (long_name 14 k) (full_trip i))
      (incomplete_key (long_name 14 k) (full_trip (suc i))) ≡ Less
  unfolding incomplete_key
  keys_ascend i =
      level (35 ∷ 114 ∷ 61 ∷ (long_name 14 k ++ 58 ∷ [])) (long_name 62 i ++ behind) (long_name 62 (suc i) ++ behind)
      ∙ name_before i (replicate 62 97 ++ behind) (replicate 62 97 ++ behind)

abbrev pub full_vehicle : ℕ → List ℕ × Vehicle
full_vehicle i = (long_name 62 i, most vehicle refl)

-- feed k: every list is full, and every key counts
abbrev pub full_feed : ℕ → List ℕ × Feed
full_feed k = (
  long_name 14 k,
  feed_with (most (optional timestamp) refl) 2048 (table (full_entry k) 0 2048) (table full_vehicle 0 1024)
      (table (λ i. most alert refl) 0 256),
)

feed_fills : (k : ℕ) → k < 4 → Fills feed_entry (full_feed k)
feed_fills k m =
    pair_fills
    (text_fills 16 token (long_name 14 k) (omega arith) refl
    (name_all (allowed token) refl [] refl 14 k (digit_token (48 + k / 64) (omega arith) (omega arith))
    (digit_token (48 + k % 64) (omega arith) (omega arith))))
    (pair_fills (most_fills (optional timestamp) refl)
    (pair_fills (greatest_fills 2048 (omega arith))
    (pair_fills
    (table_fills trip_entry (full_entry k) 2048 (omega arith) (omega arith)
    (λ i l. pair_fills (key_fills k m i l) (trip_fills i l)))
    (pair_fills
    (table_fills vehicle_entry full_vehicle 1024 (omega arith) (omega arith)
    (λ i l. pair_fills (id_fills i (omega arith)) (most_fills vehicle refl)))
    (table_fills alert (λ i. most alert refl) 256 (omega arith) (omega arith) (λ i l. most_fills alert refl))))))

feed_valid_holds : (k : ℕ) → feed_valid (full_feed k) ≡ true
unfolding feed_valid
feed_valid_holds k =
    both (table_ascending texts (full_entry k) (keys_ascend k) 0 2048)
    (both
    (table_all (full_entry k) (trip_valid (long_name 14 k)) 2048
    (λ i l. both (incomplete_ok (long_name 14 k) (full_trip i)) updates_ascend) 0 2048 (omega arith))
    (both (table_ascending texts full_vehicle (λ i. name_before i (replicate 62 97) (replicate 62 97)) 0 1024)
    (count_all (leaves.count_without_at (long_name 14 k) (table (full_entry k) 0 2048))
    (length (table (full_entry k) 0 2048)) (table_length (full_entry k) 0 2048))))
  where
    count_all : (n m : ℕ) → m ≡ 2048 → (eqb 2048 n || eqb 2048 m) ≡ true
    count_all n m e = rw e (or_right (eqb 2048 n) true refl)

-- THE LARGEST STATE
abbrev pub largest : State
largest = state_with 18446744073709551615 (table full_feed 0 4)

largest_fills : Fills overlay largest
largest_fills =
    pair_fills (most_fills (constant 1) refl)
    (pair_fills (greatest_fills 18446744073709551615 (omega arith))
    (table_fills feed_entry full_feed 4 (omega arith) (omega arith) feed_fills))

largest_valid : valid largest ≡ true
largest_valid =
    let w = largest_fills.keeps in
    parts_valid largest (record {
      five = w 5 (omega arith) (omega arith);
      six = w 6 (omega arith) (omega arith);
      seven = w 7 (omega arith) (omega arith);
      up = table_ascending texts full_feed (λ k. name_before k (replicate 14 97) (replicate 14 97)) 0 4;
      feeds = table_all full_feed feed_valid 4 (λ k l. feed_valid_holds k) 0 4 (omega arith);
    })

-- CAPACITY: the published length is met
pub capacity_met : (s : State) × Held s × (length (write overlay s) ≡ published)
capacity_met = (
  largest,
  record { fits = largest_fills.fits; valid = largest_valid },
  largest_fills.long ∙ published_capacity,
)
