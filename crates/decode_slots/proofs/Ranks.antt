-- Where a key stands in a map, by the entry at a place; and what the slots of an index hold. Assumes nothing.
use Prim.Native.Nat.{ℕ, zero, suc, ◌≤◌, ◌<◌}
use mathlib.Core.Path.{◌≡◌, refl, ap, ◌∙◌}
use mathlib.Core.Bool.{true, false}
use mathlib.Core.List.{List, [], ◌∷◌}
use native.Mathlib.Omega.{arith}
use lib.ListN.{length, get_or, take}
use lib.Seq.{get_or-take, length-take-le}
use Rattle.basics.specs.Lists.{All}
use Rattle.slices.specs.Lists.{lex_of}
use Rattle.std.specs.declared.cmp.Ordering.{Ordering}
use Rattle.std.specs.declared.cmp.Ordering.TheVariants.{Less, Equal, Greater}
use Rattle.maps.specs.Map.{Ordered, is_less, by_order, above, ascending}
use Rattle.std.specs.Ordering.{is_gt, is_eq}
use Rattle.maps.specs.Promises.Order.{is_more, is_same}
use Rattle.maps.specs.Order.{texts}
use Rattle.maps.proofs.Laws.Order.{texts_order}
use Rattle.maps.proofs.Laws.Map.{Lawful, is_less_means, rest_ascending}
use Rattle.basics.specs.Laws.Booleans.{both_true}
use Rattle.decode_slots.specs.Index.{Place, slot_key, slot_entry, slotted, index}
use Rattle.decode_slots.specs.Promises.Index.{SoundIndex, rank_of}
use Rattle.decode_slots.specs.Laws.Slots.{index_length}

pub gt_is_more : (o : Ordering) → is_gt o ≡ is_more o
gt_is_more Less = refl
gt_is_more Equal = refl
gt_is_more Greater = refl

pub eq_is_same : (o : Ordering) → is_eq o ≡ is_same o
eq_is_same Less = refl
eq_is_same Equal = refl
eq_is_same Greater = refl

pub is_more_means : (o : Ordering) → is_more o ≡ true → o ≡ Greater
is_more_means Less e = absurd (let z : ◌≡◌ {A = ℕ} 0 1 = cc in omega arith)
is_more_means Equal e = absurd (let z : ◌≡◌ {A = ℕ} 0 1 = cc in omega arith)
is_more_means Greater e = refl

module _ {K : Type 0} (O : Ordered K) {A : Type 0} (d : K × A) where
  -- the key at a place
  abbrev pub at : List (K × A) → ℕ → K
  at m i = (get_or m i d).0

module _ {K : Type 0} {O : Ordered K} (W : Lawful O) {A : Type 0} (d : K × A) where
  above_at : (k : K) (m : List (K × A)) (i : ℕ) → above O k m ≡ true → i < length m → O.compare k (at O d m i) ≡ Less
  above_at k [] i h l = absurd (omega arith)
  above_at k (e ∷ m) zero h l =
      is_less_means (O.compare k e.0) (both_true (is_less (O.compare k e.0)) (above O e.0 m) h).0
  above_at k (e ∷ m) (suc i) h l =
      let b = both_true (is_less (O.compare k e.0)) (above O e.0 m) h in
      W.through k e.0 (at O d m i) (is_less_means (O.compare k e.0) b.0) (above_at e.0 m i b.1 (omega arith))

  -- the keys of a map ascend
  pub ascending_at : (m : List (K × A)) (i j : ℕ) → ascending O m ≡ true → i < j → j < length m
      → O.compare (at O d m i) (at O d m j) ≡ Less
  ascending_at [] i j h l g = absurd (omega arith)
  ascending_at (e ∷ m) i zero h l g = absurd (omega arith)
  ascending_at (e ∷ m) zero (suc j) h l g = above_at e.0 m j h (omega arith)
  ascending_at (e ∷ m) (suc i) (suc j) h l g = ascending_at m i j (rest_ascending W e m h) (omega arith) (omega arith)

  pub rank_length : (k : K) (m : List (K × A)) → rank_of O k m ≤ length m
  rank_length k [] = omega arith
  rank_length k (e ∷ m) = go (O.compare k e.0) (rank_length k m)
    where
      go : (o : Ordering) → rank_of O k m ≤ length m → by_order o 0 0 (suc (rank_of O k m)) ≤ suc (length m)
      go Less h = omega arith
      go Equal h = omega arith
      go Greater h = omega arith

  -- behind a key that is less
  pub rank_behind : (k : K) (m : List (K × A)) (i : ℕ) → ascending O m ≡ true → i < length m
      → O.compare k (at O d m i) ≡ Greater → i < rank_of O k m
  rank_behind k [] i h l g = absurd (omega arith)
  rank_behind k (e ∷ m) zero h l g = rw g (omega arith)
  rank_behind k (e ∷ m) (suc i) h l g =
      let before : O.compare e.0 (at O d m i) ≡ Less = above_at e.0 m i h (omega arith) in
      let more : O.compare k e.0 ≡ Greater = W.more e.0 k
      (W.through e.0 (at O d m i) k before (W.less k (at O d m i) g)) in
      rw more (omega (arith, rank_behind k m i (rest_ascending W e m h) (omega arith) g))

  -- at a key that isn't, or before it
  pub rank_before : (k : K) (m : List (K × A)) (i : ℕ) → i < length m → is_more (O.compare k (at O d m i)) ≡ false
      → rank_of O k m ≤ i
  rank_before k [] i l g = absurd (omega arith)
  rank_before k (e ∷ m) zero l g = go (O.compare k e.0) g
    where
      go : (o : Ordering) → is_more o ≡ false → by_order o 0 0 (suc (rank_of O k m)) ≤ 0
      go Less p = omega arith
      go Equal p = omega arith
      go Greater p = absurd (let z : ◌≡◌ {A = ℕ} 0 1 = cc in omega arith)
  rank_before k (e ∷ m) (suc i) l g = go (O.compare k e.0) (rank_before k m i (omega arith) g)
    where
      go : (o : Ordering) → rank_of O k m ≤ i → by_order o 0 0 (suc (rank_of O k m)) ≤ suc i
      go Less p = omega arith
      go Equal p = omega arith
      go Greater p = omega arith

-- each is so, and the one at a place
pub all_at : (P : ℕ → Type 0) (l : List ℕ) (i : ℕ) → All P l → i < length l → P (get_or l i 0)
all_at P [] i h l = absurd (omega arith)
all_at P (j ∷ s) zero h l = h.0
all_at P (j ∷ s) (suc i) h l = all_at P s i h.1 (omega arith)

-- an entry that stands for no other
abbrev pub nowhere : List ℕ × Place
nowhere = ([], (0, 0))

pub slotted_at : (keys marks l : List ℕ) (i : ℕ) → i < length l
    → get_or (slotted keys marks l) i nowhere ≡ slot_entry keys marks (get_or l i 0)
slotted_at keys marks [] i h = absurd (omega arith)
slotted_at keys marks (j ∷ l) zero h = refl
slotted_at keys marks (j ∷ l) (suc i) h = slotted_at keys marks l i (omega arith)

module _ (keys marks order : List ℕ) (n : ℕ) (S : SoundIndex keys marks order n) where
  pub slot_below : (i : ℕ) → i < n → get_or order i 0 < n
  slot_below i h =
      let e : get_or (take n order) i 0 ≡ get_or order i 0 = get_or-take n order i 0 h in
      let b : get_or (take n order) i 0 < n = all_at (λ j. j < n) (take n order) i S.slots
      (omega (arith, length-take-le n order (omega (arith, S.ordered, S.counted)))) in
      omega arith

  pub index_at : (i : ℕ) → i < n
      → get_or (index keys marks order n) i nowhere ≡ slot_entry keys marks (get_or order i 0)
  index_at i h =
      slotted_at keys marks (take n order) i
      (omega (arith, length-take-le n order (omega (arith, S.ordered, S.counted))))
      ∙ ap (slot_entry keys marks) (get_or-take n order i 0 h)

  pub rank_within : (k : List ℕ) → rank_of texts k (index keys marks order n) ≤ n
  rank_within k =
      omega (arith, rank_length texts_order nowhere k (index keys marks order n), index_length keys marks order n S)

  -- a step of the search
  pub rank_more : (k : List ℕ) (i : ℕ) → i < n → is_more (lex_of k (slot_key keys marks (get_or order i 0))) ≡ true
      → i < rank_of texts k (index keys marks order n)
  rank_more k i h g =
      rank_behind texts_order nowhere k (index keys marks order n) i S.ascends
      (omega (arith, index_length keys marks order n S))
      (ap (λ e. lex_of k e.0) (index_at i h) ∙ is_more_means (lex_of k (slot_key keys marks (get_or order i 0))) g)

  pub rank_else : (k : List ℕ) (i : ℕ) → i < n → is_more (lex_of k (slot_key keys marks (get_or order i 0))) ≡ false
      → rank_of texts k (index keys marks order n) ≤ i
  rank_else k i h g =
      rank_before texts_order nowhere k (index keys marks order n) i (omega (arith, index_length keys marks order n S))
      (ap (λ e. is_more (lex_of k e.0)) (index_at i h) ∙ g)
