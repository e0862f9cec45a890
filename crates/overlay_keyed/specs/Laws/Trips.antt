-- Law. A feed's trips by checked reading: an entry and its key, and the count of the keys without '@'.
use Rattle.std.specs.Prelude.{◌≡◌, Bool, true, false, cond, ◌||◌, List, [], ◌∷◌, ◌++◌, ℕ, ◌+◌, ◌≤◌, ◌<◌, eqb, leb, length, drop, get_or, Option, Some, None}
use Rattle.std.proofs.Math.Path.{refl}
use Rattle.std.proofs.Common.{sym, ap, ◌∙◌, add-one, drop_of_length-le, drop-cons}
use Rattle.std.proofs.Math.Option.{some}
use borrow.Author.Tests.{eq-eqb, ne_eqb}
use Rattle.basics.specs.Laws.Booleans.{both_true, or_assoc}
use Rattle.formats.specs.Class.{Class, printable, in_class}
use Rattle.formats.specs.Format.{Format, text, ◌&◌, Value, read}
use Rattle.formats_check.specs.Promises.Checked.{fine, Test, behind, holds, Tested}
use Rattle.formats_check.specs.Laws.Checked.{Tells, parts, more_no, more_bad, more_so}
use Rattle.formats_check.specs.Laws.Climbing.{Spans, span_key, span_forward, span_within, Entered, enter_no}
use Rattle.formats_check.specs.Laws.Climbing.{enter_so, entered_forward, entered_in, entry_no, entry_so}
use Rattle.maps.specs.Map.{ascending}
use Rattle.maps.specs.Order.{numbers}
use Rattle.decode.specs.Trip.{trip, trip_entry, updates_of}
use Rattle.decode.specs.Key.{key_ok}
use Rattle.decode.specs.Leaves.{has_byte}
use Rattle.overlay_trip.specs.Laws.Trip.{trip_good, trip_good_holds}
use Rattle.overlay_keys.specs.Promises.Piece.{bytes, Inside}
use Rattle.overlay_keys.specs.Promises.Keys.{Keys}
use Rattle.overlay_keyed.specs.Promises.Trips.{entry_good, plain, is_count}

abbrev keyed : Test trip_entry
keyed = behind (text 137 printable) trip_good

-- a trip that is good is fine
keyed_fine : (v : Value trip_entry) → holds keyed v ≡ true → fine trip_entry v ≡ true
keyed_fine v h =
    let p = both_true (fine (text 137 printable) v.0) (holds trip_good v.1) h in
    let q = both_true (fine trip v.1) (ascending numbers (updates_of v.1)) (trip_good_holds v.1 ∙ p.1) in
    rw (p.0, q.0) refl

-- AN ENTRY
module _ {s : List ℕ} {at : ℕ} {r : Option (ℕ × ℕ)} (S : Spans 137 printable s at r) where
  pub trip_key : (f : List ℕ) → r ≡ None → Entered 137 printable (entry_good f) s at None
  trip_key f h = enter_no (more_no (entry_no S trip_good h) (λ e. key_ok f e.0 e.1) refl)

  module _ {a e : ℕ} (h : r ≡ Some (a, e)) where
    pub key_inside : Inside s a e
    key_inside = record { forward = span_forward S h; within = span_within S h }

    module _ {x : Option ℕ} (T : Tested trip trip_good s e x) where
      pub trip_none : (f : List ℕ) → x ≡ None → Entered 137 printable (entry_good f) s at None
      trip_none f i = enter_no (more_no (entry_so S h T) (λ e. key_ok f e.0 e.1) i)

      module _ {q : ℕ} (i : x ≡ Some q) {f : List ℕ} {b : Bool} (K : Keys f s a e b) where
        tells : Tells trip_entry (λ e. key_ok f e.0 e.1) s at b
        tells = record { on = go }
          where
            go : (v : Value trip_entry) (u : List ℕ) → read trip_entry (drop at s) ≡ some (v, u)
                → fine trip_entry v ≡ true → b ≡ key_ok f v.0 v.1
            go v u j g =
                let P = parts trip (span_key S h).is j refl in
                let w = both_true (fine (text 137 printable) v.0) (fine trip v.1) g in
                let k : v.0 ≡ bytes s a e = (span_key S h).bytes v.0 P.front in
                let c = (both_true (leb (length v.0) 137) (in_class printable v.0) w.0).1 in
                K.on (rw k at c) v.1 u P.rest w.1 ∙ ap (λ x. key_ok f x v.1) (sym k)

        pub trip_other : b ≡ false → Entered 137 printable (entry_good f) s at None
        trip_other j = enter_no (more_bad (entry_so S h T) _ i keyed_fine tells j)

        pub trip_so : b ≡ true → Entered 137 printable (entry_good f) s at (Some (a, e, q))
        trip_so j = enter_so S h (more_so (entry_so S h T) _ i keyed_fine tells j) refl

pub entered_inside : {s : List ℕ} {at : ℕ} {r : Option (ℕ × ℕ × ℕ)} {l : ℕ} {c : Class} {g : Format}
    {t : Test (text l c & g)}
    → Entered l c t s at r → {a e q : ℕ} → r ≡ Some (a, e, q) → Inside s a e
entered_inside E h = record { forward = entered_forward E h; within = entered_in E h }

-- '@' IN A TEXT: what is left to look at says it of the whole
pub record Seeking (v : List ℕ) (i : ℕ) : Type 0 where
  pub on : has_byte 64 v ≡ has_byte 64 (drop i v)

pub seek_start : (v : List ℕ) → Seeking v 0
seek_start v = record { on = refl }

module _ {v : List ℕ} {i : ℕ} (S : Seeking v i) where
  pub seek_end : length v ≤ i → false ≡ has_byte 64 v
  seek_end h = sym (S.on ∙ ap (has_byte 64) (drop_of_length-le v h))

  module _ (h : i < length v) where
    opens : has_byte 64 v ≡ (eqb (get_or v i 0) 64 || has_byte 64 (drop (i + 1) v))
    opens = S.on ∙ rw (add-one, drop-cons v i 0 h) refl

    pub seek_so : get_or v i 0 ≡ 64 → true ≡ has_byte 64 v
    seek_so e = sym (opens ∙ rw (eq-eqb (get_or v i 0) 64 e) refl)

    pub seek_on : (get_or v i 0 ≡ 64 → ⊥) → Seeking v (i + 1)
    seek_on e = record { on = opens ∙ rw (ne_eqb (get_or v i 0) 64 e) refl }

-- WHAT A KEY ADDS: nothing where the feed has an '@', or the key
has_joined : (f k : List ℕ) → has_byte 64 (f ++ 58 ∷ k) ≡ (has_byte 64 f || has_byte 64 k)
has_joined [] k = refl
has_joined (b ∷ f) k = rw (has_joined f k) (sym (or_assoc (eqb b 64) (has_byte 64 f) (has_byte 64 k)))

module _ (f k : List ℕ) {m : Bool} (e : m ≡ has_byte 64 f) where
  plain_is : plain f k ≡ cond (m || has_byte 64 k) 0 1
  unfolding plain
  plain_is = rw (has_joined f k, ← e) refl

  pub plain_feed : m ≡ true → 0 ≡ plain f k
  plain_feed h = sym (plain_is ∙ rw h refl)

  module _ (h : m ≡ false) {b : Bool} (i : b ≡ has_byte 64 k) where
    pub plain_key : b ≡ true → 0 ≡ plain f k
    plain_key j = sym (plain_is ∙ rw (h, ← i, j) refl)

    pub plain_so : b ≡ false → 1 ≡ plain f k
    plain_so j = sym (plain_is ∙ rw (h, ← i, j) refl)

-- THE COUNT is one of two
module _ (c n m : ℕ) where
  pub count_plain : c ≡ m → is_count c n m ≡ true
  unfolding is_count
  count_plain h = rw (eq-eqb c m h) refl

  module _ (k : c ≡ m → ⊥) where
    pub count_all : c ≡ n → is_count c n m ≡ true
    unfolding is_count
    count_all h = rw (ne_eqb c m k, eq-eqb c n h) refl

    pub count_other : (c ≡ n → ⊥) → is_count c n m ≡ false
    unfolding is_count
    count_other h = rw (ne_eqb c m k, ne_eqb c n h) refl
