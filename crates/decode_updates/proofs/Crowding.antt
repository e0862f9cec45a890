-- Whether a record has more than 128 updates: of one entity, of a slot, of many slots. Assumes nothing.
use Prim.Native.Nat.{ℕ, ◌+◌, ◌-◌, ◌*◌, ◌≤◌, ◌<◌}
use mathlib.Core.Path.{◌≡◌, refl, sym, ap, ◌∙◌}
use mathlib.Core.Bool.{Bool, true, false, ◌&&◌, ◌||◌}
use mathlib.Core.List.{List, ◌∷◌}
use native.Mathlib.Omega.{arith}
use lib.Dec.{ltb}
use lib.ListN.{length, get_or, take, drop, length-take, drop_of_length-le}
use lib.Seq.{drop-cons}
use borrow.Author.Tests.{lt-ltb, le-ltb, ltb-true, ltb-false}
use native.Mathlib.Numerals.{add-one}
use Rattle.basics.specs.Lists.{All}
use Rattle.maps.proofs.Laws.Map.{map_length}
use Rattle.decode.specs.Record.{updates_in, trip_in}
use Rattle.realtime.specs.Schema.{feed_entity}
use Rattle.decode_slots.specs.Index.{slot_place}
use Rattle.decode_slots.specs.Places.{record_at, update_at, or_end, crowded}
use Rattle.decode_slots.specs.Promises.Places.{Readable}
use Rattle.decode_updates.specs.Line.{laid}
use Rattle.decode_updates.specs.Laws.Line.{laid_length}
use Rattle.decode_updates.specs.Promises.Updates.{ListedUpdates, CrowdedRead, ReadableNew, ReadableSlot}
use Rattle.decode_updates.specs.Promises.Updates.{crowded_at, crowded_in}

-- by the updates themselves
pub crowded_listed : {s u : List ℕ} {start len r : ℕ} → ListedUpdates s start len u r
    → CrowdedRead s start len (ltb 128 r)
unfolding trip_in
crowded_listed {s} {u} {start} {len} {r} L = record {
  of = λ e q. go (ltb 128 r) refl (length (updates_in e)) (L.of e q).many
      (λ h. sym (ap length ((L.of e q).few h)) ∙ map_length (update_at s) (laid r u) ∙ laid_length r u);
}
  where
    go : (b : Bool) → ltb 128 r ≡ b → (k : ℕ) → (128 < r → 128 < k) → (r ≤ 128 → k ≡ r) → b ≡ ltb 128 k
    go true e k m f = sym (lt-ltb 128 k (m (ltb-true 128 r e)))
    go false e k m f = sym (le-ltb 128 k (let h : r ≤ 128 = ltb-false 128 r e in omega (arith, f h)))

module _ (s : List ℕ) (from to : ℕ) where
  -- a record of the old overlay
  pub place_old : 1048577 ≤ from → false ≡ crowded_at s (from, to)
  unfolding crowded_at
  place_old h = sym (ap (λ b. b && crowded (record_at s (from, to))) (le-ltb from 1048577 h))

  -- the place that is known
  pub place_known : (f t : ℕ) → crowded_at s (f, t) ≡ false → from ≡ f → to ≡ t → false ≡ crowded_at s (from, to)
  place_known f t k e g = rw (e, g) (sym k)

  module _ (R : ReadableNew s (from, to)) (h : from < 1048577) where
    pub place_reads : Readable feed_entity s (from, to)
    place_reads = R (lt-ltb from 1048577 h)

    -- a record of the message
    pub place_new : {r : Bool} → CrowdedRead s from (to - from) r → r ≡ crowded_at s (from, to)
    unfolding record_at crowded_at
    place_new {r} C =
        let q = place_reads.read in
        let z : r ≡ crowded (trip_in place_reads.message) = C.of place_reads.message q in
        z ∙ sym (ap (λ o. crowded (trip_in (or_end o))) q)
        ∙ sym (ap (λ b. b && crowded (record_at s (from, to))) (lt-ltb from 1048577 h))

-- THE INVARIANT: the slots so far have none, and neither has the place asked last
pub record Seeking (s marks order : List ℕ) (n i from to : ℕ) : Type 0 where
  pub most : i ≤ n
  pub room : n ≤ length order
  pub readable : All (ReadableSlot s marks) (drop i (take n order))
  pub same : crowded_in s marks (take n order) ≡ crowded_in s marks (drop i (take n order))
  pub known : crowded_at s (from, to) ≡ false

pub seeking : {s marks order : List ℕ} {n : ℕ} → n ≤ length order → All (ReadableSlot s marks) (take n order)
    → Seeking s marks order n 0 1048577 1048577
unfolding crowded_at
seeking h R = record { most = omega arith; room = h; readable = R; same = refl; known = refl }

module _ {s marks order : List ℕ} {n i from to : ℕ} (K : Seeking s marks order n i from to) where
  pub seeks_none : length (take n order) ≤ i → false ≡ crowded_in s marks (take n order)
  unfolding crowded_in
  seeks_none h = sym (K.same ∙ ap (crowded_in s marks) (drop_of_length-le (take n order) h))

  module _ (h : i < length (take n order)) {slot : ℕ} (e : slot ≡ get_or (take n order) i 0) where
    next : drop i (take n order) ≡ slot ∷ drop (i + 1) (take n order)
    next = drop-cons (take n order) i 0 h ∙ rw (← e, add-one)

    pub slot_below : slot < 2049
    slot_below = (rw next at K.readable).0.0

    module _ {a z : ℕ} (f : a ≡ get_or marks (3 * slot + 1) 0) (g : z ≡ get_or marks (3 * slot + 2) 0) where
      pub slot_readable : ReadableNew s (a, z)
      slot_readable = rw (f, g) (rw next at K.readable).0.1

      after : {b : Bool} → b ≡ crowded_at s (a, z)
          → crowded_in s marks (take n order) ≡ b || crowded_in s marks (drop (i + 1) (take n order))
      unfolding crowded_in
      after {b} q =
          let here : crowded_at s (slot_place marks slot) ≡ b = rw (← f, ← g) (sym q) in
          K.same ∙ ap (crowded_in s marks) next
          ∙ ap (λ x. x || crowded_in s marks (drop (i + 1) (take n order))) here

      pub seeks_found : {b : Bool} → b ≡ crowded_at s (a, z) → b ≡ true → true ≡ crowded_in s marks (take n order)
      seeks_found q t = sym (after (sym t ∙ q))

      pub seeks_on : {b : Bool} → b ≡ crowded_at s (a, z) → b ≡ false → Seeking s marks order n (i + 1) a z
      seeks_on q t = record {
        most = omega (arith, length-take n order);
        room = K.room;
        readable = (rw next at K.readable).1;
        same = after (sym t ∙ q);
        known = sym q ∙ t;
      }
