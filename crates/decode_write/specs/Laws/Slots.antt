-- Law. The slots of an index, one after the other: what is written for each, and that it can be.
use Rattle.std.specs.Prelude.{ℕ, zero, suc, ◌+◌, ◌≤◌, ◌<◌, ◌≡◌, refl, Bool, true, false, ◌||◌, length, get_or, take, Option}
use Rattle.std.proofs.Common.{sym, ◌∙◌, add-one, arith, take-suc}
use Rattle.std.proofs.Math.Path.{ap}
use mathlib.Core.List.{List, [], ◌∷◌, ◌++◌}
use Rattle.basics.specs.Lists.{All}
use Rattle.basics.specs.Laws.Booleans.{false_true}
use Rattle.formats.specs.Number.{number_w}
use Rattle.formats.specs.Format.{list, write}
use Rattle.formats.specs.Readers.{many_w}
use Rattle.formats_read.specs.Laws.Progress.{one_more}
use Rattle.formats_write.specs.Laws.Adds.{none, then, same}
use Rattle.formats_write.specs.Promises.Adds.{Adds}
use Rattle.maps.proofs.Laws.Map.{map_length}
use Rattle.decode.specs.Sizes.{most_trips}
use Rattle.decode.specs.Trip.{trip_entry}
use Rattle.decode_slots.specs.Index.{slot_entry, slot_place, slotted, index}
use Rattle.decode_slots.specs.Places.{held_at, held, crowded, any_crowded}
use Rattle.decode_slots.specs.Laws.Slots.{index_length}
use Rattle.decode_slots.specs.Promises.Index.{SoundIndex}
use Rattle.decode_index.specs.Promises.Message.{Fit}
use Rattle.decode_write.specs.Promises.Slots.{held_entry, KeyLies, GoodSlot, Writable}
use Rattle.decode_write.specs.Laws.Written.{map_append}

-- one slot more
slotted_append : (keys marks a b : List ℕ) → slotted keys marks (a ++ b) ≡ slotted keys marks a ++ slotted keys marks b
slotted_append keys marks [] b = refl
slotted_append keys marks (j ∷ a) b = ap (λ x. slot_entry keys marks j ∷ x) (slotted_append keys marks a b)

pub index_more : (keys marks order : List ℕ) (i : ℕ) → i < length order
    → index keys marks order (i + 1) ≡ index keys marks order i ++ (slot_entry keys marks (get_or order i 0) ∷ [])
index_more keys marks order i h =
    ap (slotted keys marks) (ap (λ k. take k order) (add-one i) ∙ take-suc order i 0 h)
    ∙ slotted_append keys marks (take i order) (get_or order i 0 ∷ [])

module _ (s o keys marks order : List ℕ) where
  abbrev pub entries_w : ℕ → List ℕ
  entries_w i = many_w (write trip_entry) (held s o (index keys marks order i))

  pub no_entries : {l : List ℕ} {r : Option ℕ} → Adds l r l r (entries_w 0)
  unfolding held
  no_entries = none

  pub entries_more : {l m n : List ℕ} {r q k : Option ℕ} (i : ℕ) → i < length order → {j : ℕ} → j ≡ get_or order i 0
      → Adds l r m q (entries_w i) → Adds m q n k (write trip_entry (held_entry s o (slot_entry keys marks j)))
      → Adds l r n k (entries_w (i + 1))
  unfolding held
  entries_more i h {j} p a b =
      let e = slot_entry keys marks (get_or order i 0) in
      same (then a (same b (ap (λ j. write trip_entry (held_entry s o (slot_entry keys marks j))) p)))
      (one_more (write trip_entry) (held s o (index keys marks order i)) (held_entry s o e)
      ∙ ap (many_w (write trip_entry))
      (sym (ap (held s o) (index_more keys marks order i h)
      ∙ map_append (held_at s o) (index keys marks order i) (e ∷ []))))

  pub entries_done : {l m : List ℕ} {r q : Option ℕ} {i n : ℕ} → i ≤ n → n ≤ i → Adds l r m q (entries_w i)
      → Adds l r m q (entries_w n)
  entries_done {i} {n} h k a = let e : i ≡ n = omega arith in same a (ap entries_w e)

-- what holds of the first n holds of each
taken : (P : ℕ → Type 0) (n : ℕ) (l : List ℕ) → All P (take n l) → (i : ℕ) → i < n → i < length l → P (get_or l i 0)
taken P zero l a i h k = absurd (omega arith)
taken P (suc n) [] a i h k = absurd (omega arith)
taken P (suc n) (j ∷ l) a zero h k = a.0
taken P (suc n) (j ∷ l) a (suc i) h k = taken P n l a.1 i (omega arith) (omega arith)

pub taken_at : (P : ℕ → Type 0) (n : ℕ) (l : List ℕ) → All P (take n l) → (i : ℕ) → i < n → n ≤ length l
    → {j : ℕ} → j ≡ get_or l i 0 → P j
taken_at P n l a i h k e = rw e (taken P n l a i h (omega arith))

-- the slots of an index as `leave` leaves it can be written
key_lies : {keys marks order : List ℕ} {n : ℕ} → SoundIndex keys marks order n → (j : ℕ) → j < n → KeyLies keys marks j
key_lies S j h = record {
  marked = omega (arith, S.marked, S.counted);
  keyed = omega (arith, S.keyed, S.counted, S.lengths j h);
}

lie_all : {keys marks order : List ℕ} {n : ℕ} → SoundIndex keys marks order n → (l : List ℕ) → All (λ j. j < n) l
    → All (KeyLies keys marks) l
lie_all S [] a = tt
lie_all S (j ∷ l) a = (key_lies S j a.0, lie_all S l a.1)

pub keys_lie : {keys marks order : List ℕ} {n : ℕ} → SoundIndex keys marks order n
    → All (KeyLies keys marks) (take n order)
keys_lie {order} {n} S = lie_all S (take n order) S.slots

or_no : (x y : Bool) → x || y ≡ false → (x ≡ false) × (y ≡ false)
or_no true y e = false_true (sym e)
or_no false y e = (refl, e)

module _ (s o keys marks : List ℕ) where
  good_all : (l : List ℕ) → All (KeyLies keys marks) l → All (λ e. Fit s o e.1) (slotted keys marks l)
      → any_crowded (held s o (slotted keys marks l)) ≡ false → All (GoodSlot s o keys marks) l
  unfolding held any_crowded
  good_all [] a f c = tt
  good_all (j ∷ l) a f c =
      let d = or_no (crowded (held_at s o (slot_place marks j))) (any_crowded (held s o (slotted keys marks l))) c in
      (record { lies = a.0; fit = f.0; calm = d.0 }, good_all l a.1 f.1 d.1)

  pub good_slots : {order : List ℕ} {n : ℕ} → Writable s o keys marks order n
      → All (GoodSlot s o keys marks) (take n order)
  good_slots {order} {n} W = good_all (take n order) (keys_lie W.sound) W.fit W.calm

  -- all of them
  pub trips_adds : {l m p : List ℕ} {r q k : Option ℕ} {order : List ℕ} {n : ℕ} → SoundIndex keys marks order n
      → Adds l r m q (number_w n) → Adds m q p k (entries_w s o keys marks order n)
      → Adds l r p k (write (list most_trips trip_entry) (held s o (index keys marks order n)))
  unfolding held
  trips_adds {order} {n} S a b =
      let m = index keys marks order n in
      then (same a (ap number_w (sym (map_length (held_at s o) m ∙ index_length keys marks order n S)))) b
