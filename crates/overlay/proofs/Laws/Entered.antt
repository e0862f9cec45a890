-- Law. What the entities of a message within questions 4 to 6 enter is within them too: records, updates and keys.
use Rattle.std.specs.Prelude.{◌≡◌, Bool, cond, not, ℕ, suc, ◌-◌, ◌%◌, ◌^◌, pos, negsuc, leb, ltb, length}
use Rattle.std.proofs.Math.Path.{refl}
use Rattle.std.proofs.Common.{sym, ap, ◌∙◌, arith, le-leb, leb-true, ltb-true, ltb-false, lt-ltb}
use Rattle.std.proofs.Math.Bool.{true, false}
use mathlib.Core.List.{List, [], ◌∷◌, ◌++◌, map}
use Rattle.std.proofs.Math.Option
use Rattle.std.proofs.Math.Option.{Option, none, some}
use Rattle.std.proofs.Math.Dec.{leb-zero}
use mir.Val.{sel}
use Rattle.basics.specs.Lists.{All, is_empty}
use Rattle.formats.specs.Class.{in_class, printable, token}
use Rattle.formats.specs.Format.{Format, text, small, optional, ◌&◌, Value}
use Rattle.formats_judge.specs.Judged.{ok}
use Rattle.overlay.proofs.Laws.Within.{Judged56, joined, listed, absent, present, both}
use Rattle.realtime.specs.Tree.{Tree, Leaf, count, words, tree, last, sub, rep}
use Rattle.realtime.specs.Schema.{feed_message, feed_entity, trip_update, trip_descriptor, stop_time_update, stop_time_event}
use Rattle.realtime.specs.Schema.{field_rows, feed}
use Rattle.realtime.specs.Judge.{rules, texts_fine, numbers_fine, number_rule, limit_by, class_by}
use Rattle.realtime.specs.Typed.{int32, int64, uint32, number_in, or_zero}
use Rattle.realtime.specs.Typed as typed
use Rattle.realtime.specs.Views as view
use Rattle.decode.specs.Trip.{Trip, StopUpdate, delay, instant, number32, stop_update, trip, route_of, date_of, time_of}
use Rattle.decode.specs.Trip.{updates_of}
use Rattle.basics.specs.Options.{maybe}
use Rattle.decode.specs.Key.{dated_key, incomplete_key, inserts, entries_in, key_ok}
use Rattle.maps.specs.Map.{ascending}
use Rattle.maps.specs.Order.{numbers}
use Rattle.maps.proofs.Laws.Order.{numbers_order}
use Rattle.maps.proofs.Laws.Map.{puts_ascending}
use Rattle.basics.specs.Laws.Booleans.{both_true}
use Rattle.decode.specs.Record.{bit, update_in, updates_in, trip_in}
use Rattle.decode.specs.Leaves.{entries, timestamp_in}
use Rattle.overlay.specs.State.{timestamp}
use Rattle.decode.specs.Laws.Fine.{FineTree, Given, LeafFine, fine_sub, fine_rep, fine_last, tree_fine}
use Rattle.overlay.proofs.Laws.StaysValid.{TripKept}
use Rattle.overlay.proofs.Laws.Keys.{Printed, printed_judged, printed_append, printed_up, token_printed}
use Rattle.overlay.proofs.Laws.Keys.{incomplete_printed, base_ok, dated_ok_holds, incomplete_ok}
use Rattle.overlay.proofs.Laws.EveryEntry.{each_puts}

abbrev FineIn : ℕ → Tree → Type 0
FineIn t m = FineTree feed rules t m

-- ---- numbers by their types, whatever they are

pub int32_judged : (n : ℕ) → Judged56 delay (int32 n)
int32_judged n = record { formed = tt; five = refl; six = go (ltb (n % 2 ^ 32) (2 ^ 31)) refl }
  where
    m : ℕ
    m = n % 2 ^ 32

    go : (b : Bool) → ltb m (2 ^ 31) ≡ b → ok 6 delay (sel b (pos m) (negsuc (2 ^ 32 - suc m))) ≡ true
    go true e = le-leb m 2147483647 (omega (arith, ltb-true m (2 ^ 31) e))
    go false e = both (le-leb (2 ^ 32 - suc m) 2147483647 (omega (arith, ltb-false m (2 ^ 31) e))) refl

int64_judged : (n : ℕ) → Judged56 timestamp (int64 n)
int64_judged n = record { formed = tt; five = refl; six = go (ltb n (2 ^ 63)) refl }
  where
    go : (b : Bool) → ltb n (2 ^ 63) ≡ b → ok 6 timestamp (sel b (pos n) (negsuc (2 ^ 64 - suc n))) ≡ true
    go true e = le-leb n 9223372036854775807 (omega (arith, ltb-true n (2 ^ 63) e))
    go false e = both (le-leb (2 ^ 64 - suc n) 9223372036854775807 (omega (arith, ltb-false n (2 ^ 63) e))) refl

instant_judged : (n : ℕ) → leb n 4102444800 ≡ true → Judged56 instant (int64 n)
instant_judged n h =
    let l = leb-true n 4102444800 h in
    rw (lt-ltb n (2 ^ 63) (omega arith)) (record { formed = tt; five = refl; six = both (leb-zero n) h })

uint32_judged : (n : ℕ) → Judged56 number32 (uint32 n)
uint32_judged n =
    record {
      formed = tt;
      five = refl;
      six = both (leb-zero (n % 2 ^ 32)) (le-leb (n % 2 ^ 32) 4294967295 (omega arith));
    }

flag_judged : (b : Bool) → Judged56 (small 1) (bit b)
flag_judged true = record { formed = omega arith; five = refl; six = refl }
flag_judged false = record { formed = omega arith; five = refl; six = refl }

-- a number that may be absent, by its type
maybe_judged : {A : Type 0} (F : Format) (P : A → Type 0) (g : A → Value F) → ((a : A) → P a → Judged56 F (g a))
    → (o : Option A) → Given P o → Judged56 (optional F) (maybe (Option.map g o))
maybe_judged F P g h none x = absent F
maybe_judged F P g h (some a) x = present F (g a) (h a x)

any_judged : {A : Type 0} (F : Format) (g : A → Value F) → ((a : A) → Judged56 F (g a)) → (o : Option A)
    → Judged56 (optional F) (maybe (Option.map g o))
any_judged F g h none = absent F
any_judged F g h (some a) = present F (g a) (h a)

pub timestamp_kept : (t : Tree) → Judged56 (optional timestamp) (timestamp_in t)
timestamp_kept t = any_judged timestamp int64 int64_judged (view.header t).timestamp

-- a listed number
number_given : (t f : ℕ) (o : Option Leaf) → Given (LeafFine feed rules t f) o
    → Given (λ n. number_rule t f n ≡ true) (number_in o)
number_given t f none x = tt
number_given t f (some (count n)) x = x
number_given t f (some (words s)) x = tt

-- ---- texts

-- the last text of a field
text_printed : (t f l : ℕ) (m : Tree) → class_by t ≡ printable → limit_by 64 t f ≡ l → FineIn t m
    → Printed l (typed.text_in (last f m))
text_printed t f l m d e x = go (last f m) (fine_last feed rules t f m x)
  where
    go : (o : Option Leaf) → Given (LeafFine feed rules t f) o → Printed l (typed.text_in o)
    go none h = record { short = omega arith; fair = refl }
    go (some (count n)) h = record { short = omega arith; fair = refl }
    go (some (words s)) h =
        let q = both_true (leb (length s) (limit_by 64 t f)) (in_class (class_by t) s) h in
        record {
          short = omega (arith, leb-true (length s) (limit_by 64 t f) q.0);
          fair = ap (λ c. in_class c s) (sym d) ∙ q.1;
        }

-- ---- a stop time update, and a trip

event_judged : (v : Tree) → FineIn stop_time_event v
    → Judged56 (optional delay) (maybe (view.event v).delay) × Judged56 (optional instant) (maybe (view.event v).time)
event_judged v x = (
  any_judged delay int32 int32_judged (number_in (last 1 v)),
  maybe_judged instant (λ n. number_rule stop_time_event 2 n ≡ true) int64 instant_judged (number_in (last 2 v))
      (number_given stop_time_event 2 (last 2 v) (fine_last feed rules stop_time_event 2 v x)),
)

update_judged : (s : Tree) → FineIn stop_time_update s → Judged56 stop_update (update_in s)
unfolding update_in feed field_rows
update_judged s x =
    let a = event_judged (sub 2 s) (fine_sub feed rules stop_time_update 2 stop_time_event refl s x) in
    let d = event_judged (sub 3 s) (fine_sub feed rules stop_time_update 3 stop_time_event refl s x) in
    joined _ (printed_judged 64 _ (text_printed stop_time_update 4 64 s refl refl x))
    (joined _ a.0 (joined _ a.1 (joined _ d.0 (joined _ d.1 (flag_judged (view.stop_update s).skipped)))))

abbrev update_entries : List Tree → List (ℕ × StopUpdate)
update_entries l = map {B = ℕ × StopUpdate} (λ s. ((view.stop_update s).sequence, update_in s)) l

each_update : (l : List Tree) → All (FineIn stop_time_update) l
    → All (Judged56 (number32 & stop_update)) (update_entries l)
each_update [] h = tt
each_update (s ∷ l) h =
    (joined _ (uint32_judged (or_zero (number_in (last 1 s)))) (update_judged s h.0), each_update l h.1)

updates_judged : (e : Tree) → FineIn trip_update (sub 3 e) → All (Judged56 (number32 & stop_update)) (updates_in e)
unfolding updates_in feed field_rows
updates_judged e x =
    each_puts numbers (Judged56 (number32 & stop_update)) (update_entries (rep 2 (sub 3 e))) []
    (each_update (rep 2 (sub 3 e)) (fine_rep feed rules trip_update 2 stop_time_update refl (sub 3 e) x)) tt

updates_up : (e : Tree) → ascending numbers (updates_in e) ≡ true
unfolding updates_in
updates_up e = puts_ascending numbers_order (update_entries (rep 2 (sub 3 e))) [] refl

-- the descriptor of an entity
abbrev descriptor : Tree → Tree
descriptor e = sub 1 (sub 3 e)

module _ (e : Tree) (x : FineIn feed_entity e) where
  fine_update : FineIn trip_update (sub 3 e)
  unfolding feed field_rows
  fine_update = fine_sub feed rules feed_entity 3 trip_update refl e x

  fine_descriptor : FineIn trip_descriptor (descriptor e)
  unfolding feed field_rows
  fine_descriptor = fine_sub feed rules trip_update 1 trip_descriptor refl (sub 3 e) fine_update

  text_of : (f l : ℕ) → limit_by 64 trip_descriptor f ≡ l → Printed l (typed.text_in (last f (descriptor e)))
  text_of f l q = text_printed trip_descriptor f l (descriptor e) refl q fine_descriptor

  trip_judged : Judged56 trip (trip_in e)
  unfolding trip_in
  trip_judged =
      joined _ (any_judged delay int32 int32_judged (number_in (last 5 (sub 3 e))))
      (joined _ (flag_judged (view.trip e).cancelled)
      (joined _ (printed_judged 16 _ (text_of 3 16 refl))
      (joined _ (printed_judged 64 _ (text_of 5 64 refl))
      (joined _ (any_judged number32 uint32 uint32_judged (number_in (last 6 (descriptor e))))
      (joined _ (printed_judged 16 _ (text_of 2 16 refl))
      (listed 128 (number32 & stop_update) (updates_in e) (updates_judged e fine_update)))))))

-- ---- entries

-- a record at a key of its own
entry_kept : (f x : List ℕ) (t : Trip) → Printed 137 x → key_ok f x t ≡ true → Judged56 trip t
    → ascending numbers (updates_of t) ≡ true → TripKept f (x, t)
entry_kept f x t p k j u = record { judged = joined (x, t) (printed_judged 137 x p) j; valid = both k u }

-- THE ENTRIES OF AN ENTITY
module _ (f : List ℕ) (name : ok 5 (text 16 token) f ≡ true) where
  inserts_kept : (raw : List ℕ) (t : Trip) → Printed 64 raw → Printed 64 (route_of t) → Printed 16 (date_of t)
      → Printed 16 (time_of t)
      → Judged56 trip t → ascending numbers (updates_of t) ≡ true → All (TripKept f) (inserts f raw t)
  inserts_kept [] t p r d m j u = go (is_empty (route_of t))
    where
      go : (b : Bool) → All (TripKept f) (cond b [] ((incomplete_key f t, t) ∷ []))
      go true = tt
      go false =
          let p = incomplete_printed f t (token_printed f name) r d m in
          (entry_kept f (incomplete_key f t) t p (incomplete_ok f t) j u, tt)
  inserts_kept (b ∷ raw) t p r d m j u = go (is_empty (date_of t)) refl
    where
      base : TripKept f (b ∷ raw, t)
      base = entry_kept f (b ∷ raw) t (printed_up (omega arith) p) (base_ok f b raw t p) j u

      go : (e : Bool) → is_empty (date_of t) ≡ e
          → All (TripKept f) (cond e ((b ∷ raw, t) ∷ []) ((dated_key (b ∷ raw) (date_of t), t) ∷ (b ∷ raw, t) ∷ []))
      go true e = (base, tt)
      go false e = (
        entry_kept f (dated_key (b ∷ raw) (date_of t)) t
            (printed_up (omega arith)
            (printed_append 64 17 (b ∷ raw) (64 ∷ date_of t) p
            (record { short = omega (arith, d.short); fair = d.fair })))
            (dated_ok_holds f b raw t p (ap not e)) j u,
        (base, tt),
      )

  entity_kept : (e : Tree) → FineIn feed_entity e → All (TripKept f) (entries_in f e)
  unfolding entries_in trip_in
  entity_kept e x = go (view.deleted e)
    where
      go : (b : Bool) → All (TripKept f) (cond b [] (inserts f (view.trip e).id (trip_in e)))
      go true = tt
      go false =
          inserts_kept (view.trip e).id (trip_in e) (text_of e x 1 64 refl) (text_of e x 5 64 refl)
          (text_of e x 3 16 refl) (text_of e x 2 16 refl)
          (trip_judged e x) (updates_up e)

  all_join : {A : Type 0} (P : A → Type 0) (x y : List A) → All P x → All P y → All P (x ++ y)
  all_join P [] y a b = b
  all_join P (c ∷ x) y a b = (a.0, all_join P x y a.1 b)

  each_entity : (l : List Tree) → All (FineIn feed_entity) l → All (TripKept f) (entries f l)
  unfolding entries
  each_entity [] h = tt
  each_entity (e ∷ l) h =
      all_join (TripKept f) (entries_in f e) (entries f l) (entity_kept e h.0) (each_entity l h.1)

  pub entries_kept : (m : List ℕ) (t : Tree) → tree feed feed_message m ≡ some t
      → texts_fine rules feed_message t ≡ true
      → numbers_fine rules feed_message t ≡ true → All (TripKept f) (entries f (rep 2 t))
  unfolding feed field_rows
  entries_kept m t e a b =
      each_entity (rep 2 t)
      (fine_rep feed rules feed_message 2 feed_entity refl t (tree_fine feed rules feed_message m t e a b))
