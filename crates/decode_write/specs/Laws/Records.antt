-- Law. A trip's record, written from an entity of the message or copied from the old overlay, and an index's entry.
use Rattle.std.specs.Prelude.{ℕ, ◌+◌, ◌-◌, ◌*◌, ◌≤◌, ◌<◌, ◌≡◌, refl, Bool, true, false, List, ◌++◌, ltb, length, get_or, take, drop, Option}
use Rattle.std.proofs.Math.Path.{sym, ap}
use Rattle.std.proofs.Common.{ap₂, ◌∙◌, append_assoc, arith}
use Rattle.std.proofs.Math.Seq.{slice}
use borrow.Author.Tests.{lt-ltb, le-ltb, ltb-true, ltb-false}
use Rattle.basics.specs.Lists.{All}
use Rattle.basics.specs.Options.{maybe}
use Rattle.formats.specs.Number.{number_w}
use Rattle.formats.specs.Format.{write}
use Rattle.formats_write.specs.Laws.Adds.{then, same}
use Rattle.formats_write.specs.Laws.Slices.{slice_is}
use Rattle.formats_write.specs.Promises.Adds.{Adds}
use Rattle.formats_write.specs.Promises.Given.{text_w}
use Rattle.formats_read.specs.Laws.Rewriting.{kept}
use Rattle.maps.proofs.Laws.Map.{map_length}
use Rattle.realtime.specs.Schema.{feed_entity, stop_time_update}
use Rattle.realtime.specs.Schema as schema
use Rattle.realtime_views.specs.declared.Trip as read
use Rattle.realtime.specs.Views.{TripView}
use Rattle.realtime.specs.Views as views
use Rattle.realtime_views.specs.Promises.Views.{TripRead, view_trip}
use Rattle.decode.specs.Record.{bit, updates_in, trip_in}
use Rattle.decode.specs.Sizes.{most_updates, beyond, key_bytes}
use Rattle.decode.specs.Trip.{StopUpdate, Trip, trip, trip_entry, trip_with}
use Rattle.decode_slots.specs.Index.{slot_entry}
use Rattle.decode_slots.specs.Places.{or_end, record_at, update_at, held_at, is_new, crowded}
use Rattle.decode_slots.specs.Promises.Places.{Readable}
use Rattle.decode_updates.specs.Line.{laid}
use Rattle.decode_updates.specs.Updates.{updates_at}
use Rattle.decode_updates.specs.Laws.Line.{laid_length}
use Rattle.decode_updates.specs.Promises.Updates.{HoldsUpdates, ListedUpdates}
use Rattle.decode_index.specs.Promises.Message.{Fit}
use Rattle.decode_write.specs.Promises.Slots.{held_entry, GoodSlot}
use Rattle.decode_write.specs.Promises.Written.{TextsLie, head_w}
use Rattle.decode_write.specs.Laws.Written.{updates_w}

-- a record by the view of its trip and its updates
abbrev trip_of : TripView → List (ℕ × StopUpdate) → Trip
trip_of t us =
    trip_with (maybe t.delay) (bit t.cancelled) t.date t.route (maybe t.direction) t.time us

-- the texts of a trip that was read lie in the message
pub texts_lie : {s : List ℕ} {i l : ℕ} {t : read.Trip} → TripRead schema.feed s i l t → TextsLie (length s) t
texts_lie T = record { date = T.date; route = T.route; time = T.time }

-- of the entity at a readable place
module _ {s : List ℕ} {from to : ℕ} {u : List ℕ} {n : ℕ} (R : Readable feed_entity s (from, to))
    (L : ListedUpdates s from (to - from) u n) where
  lines : HoldsUpdates s u n R.message
  lines = L.of R.message R.read

  record_is : record_at s (from, to) ≡ trip_in R.message
  unfolding record_at
  record_is = ap (λ m. trip_in (or_end m)) R.read

  calm_few : crowded (trip_in R.message) ≡ false → length (updates_in R.message) ≤ most_updates
  unfolding trip_in
  calm_few e = ltb-false most_updates (length (updates_in R.message)) e

  module _ (calm : crowded (record_at s (from, to)) ≡ false) where
    pub few_updates : n ≤ most_updates
    few_updates = go (ltb most_updates n) refl
      where
        go : (b : Bool) → ltb most_updates n ≡ b → n ≤ most_updates
        go true e = omega (arith, calm_few (sym (ap crowded record_is) ∙ calm), lines.many (ltb-true most_updates n e))
        go false e = ltb-false most_updates n e

    pub updates_readable : All (λ x. Readable stop_time_update s x.1) (laid n u)
    updates_readable = lines.readable

    module _ {t : read.Trip} (T : TripRead schema.feed s from (to - from) t) where
      record_parts : trip_in R.message ≡ trip_of (view_trip s t) (updates_at s (laid n u))
      unfolding trip_in
      record_parts =
          sym (ap (λ v. trip_of v (updates_at s (laid n u))) (T.of R.message R.read)
          ∙ ap (trip_of (views.trip R.message)) (lines.few few_updates))

      counted : n ≡ length (updates_at s (laid n u))
      counted = sym (map_length (update_at s) (laid n u) ∙ laid_length n u)

      pub record_adds : {l₀ l₁ l₂ l₃ : List ℕ} {r₀ r₁ r₂ r₃ : Option ℕ} → Adds l₀ r₀ l₁ r₁ (head_w (view_trip s t))
          → Adds l₁ r₁ l₂ r₂ (number_w n) → Adds l₂ r₂ l₃ r₃ (updates_w s u n)
          → Adds l₀ r₀ l₃ r₃ (write trip (record_at s (from, to)))
      record_adds a b c =
          same (same (then a (then (same b (ap number_w counted)) c)) (simp append_assoc))
          (sym (ap (write trip) (record_is ∙ record_parts)))

-- at a place of the index
module _ {s o : List ℕ} {from to : ℕ} (F : Fit s o (from, to)) where
  module _ (h : from < beyond) where
    is_new_holds : is_new (from, to) ≡ true
    is_new_holds = lt-ltb from beyond h

    pub new_readable : Readable feed_entity s (from, to)
    new_readable = F.new is_new_holds

    pub new_calm : crowded (held_at s o (from, to)) ≡ false → crowded (record_at s (from, to)) ≡ false
    new_calm e = rw is_new_holds at e

    pub new_adds : {l m : List ℕ} {r q : Option ℕ} → Adds l r m q (write trip (record_at s (from, to)))
        → Adds l r m q (write trip (held_at s o (from, to)))
    new_adds a = rw is_new_holds a

  module _ (h : beyond ≤ from) where
    is_old : is_new (from, to) ≡ false
    is_old = le-ltb from beyond h

    pub old_beyond : beyond ≤ to
    old_beyond = omega (arith, (F.old is_old).forward)

    pub old_adds : {l m : List ℕ} {r q : Option ℕ}
        → (from - beyond ≤ to - beyond → to - beyond ≤ length o
        → Adds l r m q (slice (from - beyond) (to - beyond) o))
        → Adds l r m q (write trip (held_at s o (from, to)))
    old_adds a = rw is_old (kept (F.old is_old).here a)

-- an entry of the index
module _ {s o keys marks : List ℕ} {j : ℕ} (G : GoodSlot s o keys marks j) {from to : ℕ}
    (f : from ≡ get_or marks (3 * j + 1) 0) (e : to ≡ get_or marks (3 * j + 2) 0) where
  pub slot_fits : Fit s o (from, to)
  slot_fits = rw (f, e) G.fit

  pub slot_calm : crowded (held_at s o (from, to)) ≡ false
  slot_calm = rw (f, e) G.calm

  pub entry_adds : {l m n : List ℕ} {r q k : Option ℕ} {size : ℕ} → size ≡ get_or marks (3 * j) 0
      → (key_bytes * j ≤ key_bytes * j + size → key_bytes * j + size ≤ length keys
      → Adds l r m q (text_w (slice (key_bytes * j) (key_bytes * j + size) keys)))
      → Adds m q n k (write trip (held_at s o (from, to)))
      → Adds l r n k (write trip_entry (held_entry s o (slot_entry keys marks j)))
  entry_adds {size} z a b =
      let w : key_bytes * j + size ≤ length keys = omega (arith, G.lies.keyed) in
      let d : key_bytes * j + size - key_bytes * j ≡ get_or marks (3 * j) 0 = omega arith in
      let x : slice (key_bytes * j) (key_bytes * j + size) keys ≡ (slot_entry keys marks j).0 =
      sym (slice_is (key_bytes * j) (key_bytes * j + size) keys (omega arith) w)
      ∙ ap (λ k. take k (drop (key_bytes * j) keys)) d in
      let v : held_at s o (from, to) ≡ held_at s o (slot_entry keys marks j).1 = rw (f, e) refl in
      same (then (a (omega arith) w) b) (ap₂ (λ k t. text_w k ++ write trip t) x v)
