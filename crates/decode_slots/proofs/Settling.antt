-- A key goes into the index at its rank: over the place of a slot, or into the next slot. Assumes nothing.
use Prim.Native.Nat.{ℕ, zero, suc, ◌+◌, ◌*◌, ◌≤◌, ◌<◌}
use mathlib.Core.Path.{◌≡◌, refl, sym, ap, ◌∙◌}
use mathlib.Core.Bool.{Bool, true, false, ◌&&◌}
use mathlib.Core.List.{List, [], ◌∷◌, ◌++◌}
use native.Mathlib.Omega.{arith}
use lib.Dec.{ltb, eqb}
use lib.ListN.{length, get_or, take, drop, set, length-set}
use lib.Seq.{get_or-take, length-take-le, get_or-set_same, get_or-set_other, ext_get_or}
use borrow.Author.Tests.{ltb-true, ltb-false, eqb-true, eqb-false, lt-ltb}
use Rattle.basics.specs.Lists.{All}
use Rattle.slices.specs.Lists.{lex_of}
use Rattle.std.specs.declared.cmp.Ordering.{Ordering}
use Rattle.std.specs.declared.cmp.Ordering.TheVariants.{Less, Equal, Greater}
use Rattle.maps.specs.Map.{Ordered, by_order, put, ascending}
use Rattle.maps.specs.Promises.Order.{is_same}
use Rattle.maps.specs.Order.{texts}
use Rattle.maps.proofs.Laws.Order.{texts_order, lex_itself, lex_same}
use Rattle.maps.proofs.Laws.Map.{put_ascending}
use Rattle.basics.specs.Laws.Booleans.{both_true}
use Rattle.decode_slots.specs.Index.{Place, slot_key, slot_place, slot_entry, slotted, index}
use Rattle.slices.specs.Promises.Inserted.{inserted}
use Rattle.decode_slots.specs.Promises.Index.{key_in, SoundIndex, Settled, rank_of, remarked}
use Rattle.slices.proofs.Gaps.{gap_front, gap_length}
use Rattle.decode_slots.specs.Laws.Slots.{slotted_length, index_length}
use Rattle.decode_slots.proofs.Ranks.{at, ascending_at, slotted_at, index_at, slot_below, rank_within, nowhere}

pub is_same_means : (o : Ordering) → is_same o ≡ true → o ≡ Equal
is_same_means Less e = absurd (let z : ◌≡◌ {A = ℕ} 0 1 = cc in omega arith)
is_same_means Equal e = refl
is_same_means Greater e = absurd (let z : ◌≡◌ {A = ℕ} 0 1 = cc in omega arith)

module _ {K : Type 0} (O : Ordered K) {A : Type 0} (d : K × A) where
  -- a put is a store at the rank, or goes in there
  pub put_over : (k : K) (v : A) (m : List (K × A)) → rank_of O k m < length m
      → is_same (O.compare k (at O d m (rank_of O k m))) ≡ true → put O k v m ≡ set m (rank_of O k m) (k, v)
  put_over k v [] l h = absurd (omega arith)
  put_over k v (e ∷ m) l h = go (O.compare k e.0) refl l h (put_over k v m)
    where
      go : (o : Ordering) → O.compare k e.0 ≡ o → by_order o 0 0 (suc (rank_of O k m)) < suc (length m)
          → is_same (O.compare k (at O d (e ∷ m) (by_order o 0 0 (suc (rank_of O k m))))) ≡ true
          → (rank_of O k m < length m → is_same (O.compare k (at O d m (rank_of O k m))) ≡ true → put O k v m ≡ set m
          (rank_of O k m) (k, v))
          → by_order o ((k, v) ∷ e ∷ m) ((k, v) ∷ m) (e ∷ put O k v m) ≡ set (e ∷ m)
          (by_order o 0 0 (suc (rank_of O k m))) (k, v)
      go Less p l h i =
          absurd (let z : Less ≡ Equal = sym p
          ∙ is_same_means (O.compare k e.0) h in let z : ◌≡◌ {A = ℕ} 0 1 = cc in omega arith)
      go Equal p l h i = refl
      go Greater p l h i = ap (λ x. e ∷ x) (i (omega arith) h)

  pub put_into : (k : K) (v : A) (m : List (K × A))
      → (rank_of O k m < length m → is_same (O.compare k (at O d m (rank_of O k m))) ≡ false)
      → put O k v m ≡ take (rank_of O k m) m ++ (k, v) ∷ drop (rank_of O k m) m
  put_into k v [] h = refl
  put_into k v (e ∷ m) h = go (O.compare k e.0) refl h (put_into k v m)
    where
      go : (o : Ordering) → O.compare k e.0 ≡ o
          → (by_order o 0 0 (suc (rank_of O k m)) < suc (length m) → is_same
          (O.compare k (at O d (e ∷ m) (by_order o 0 0 (suc (rank_of O k m))))) ≡ false)
          → ((rank_of O k m < length m → is_same (O.compare k (at O d m (rank_of O k m))) ≡ false) → put O k v m ≡ take
          (rank_of O k m) m ++ (k, v) ∷ drop (rank_of O k m) m)
          → by_order o ((k, v) ∷ e ∷ m) ((k, v) ∷ m) (e ∷ put O k v m)
          ≡ take (by_order o 0 0 (suc (rank_of O k m))) (e ∷ m) ++ (k, v) ∷ drop (by_order o 0 0 (suc (rank_of O k m)))
          (e ∷ m)
      go Less p h i = refl
      go Equal p h i =
          absurd (let z : true ≡ false = sym (ap is_same p)
          ∙ h (omega arith) in let z : ◌≡◌ {A = ℕ} 0 1 = cc in omega arith)
      go Greater p h i = ap (λ x. e ∷ x) (i (λ l. h (omega arith)))

-- the length of a key stays, and the place of another slot
pub length_kept : (marks : List ℕ) (j slot from to : ℕ)
    → get_or (remarked marks slot from to) (3 * j) 0 ≡ get_or marks (3 * j) 0
length_kept marks j slot from to =
    get_or-set_other (set marks (3 * slot + 1) from) (3 * slot + 2) (3 * j) to 0 (λ e. omega arith)
    ∙ get_or-set_other marks (3 * slot + 1) (3 * j) from 0 (λ e. omega arith)

pub place_other : (marks : List ℕ) (j slot from to : ℕ) → (j ≡ slot → ⊥)
    → slot_place (remarked marks slot from to) j ≡ slot_place marks j
place_other marks j slot from to h =
    rw (
      get_or-set_other (set marks (3 * slot + 1) from) (3 * slot + 2) (3 * j + 1) to 0 (λ e. omega arith),
      get_or-set_other marks (3 * slot + 1) (3 * j + 1) from 0 (λ e. h (omega arith)),
      get_or-set_other (set marks (3 * slot + 1) from) (3 * slot + 2) (3 * j + 2) to 0 (λ e. h (omega arith)),
      get_or-set_other marks (3 * slot + 1) (3 * j + 2) from 0 (λ e. omega arith),
    )

pub place_own : (marks : List ℕ) (slot from to : ℕ) → 3 * slot + 3 ≤ length marks
    → slot_place (remarked marks slot from to) slot ≡ (from, to)
place_own marks slot from to h =
    rw (
      get_or-set_other (set marks (3 * slot + 1) from) (3 * slot + 2) (3 * slot + 1) to 0 (λ e. omega arith),
      get_or-set_same marks (3 * slot + 1) from 0 (omega arith),
      get_or-set_same (set marks (3 * slot + 1) from) (3 * slot + 2) to 0
          (omega (arith, length-set marks (3 * slot + 1) from)),
    )

entry_other : (keys marks : List ℕ) (j slot from to : ℕ) → (j ≡ slot → ⊥)
    → slot_entry keys (remarked marks slot from to) j ≡ slot_entry keys marks j
entry_other keys marks j slot from to h = rw (length_kept marks j slot from to, place_other marks j slot from to h)

entry_own : (keys marks : List ℕ) (slot from to : ℕ) → 3 * slot + 3 ≤ length marks
    → slot_entry keys (remarked marks slot from to) slot ≡ (slot_key keys marks slot, (from, to))
entry_own keys marks slot from to h = rw (length_kept marks slot slot from to, place_own marks slot from to h)

pub marks_length : (marks : List ℕ) (j from to : ℕ) → length (remarked marks j from to) ≡ length marks
marks_length marks j from to =
    length-set (set marks (3 * j + 1) from) (3 * j + 2) to ∙ length-set marks (3 * j + 1) from

slotted_append : (keys marks a b : List ℕ) → slotted keys marks (a ++ b) ≡ slotted keys marks a ++ slotted keys marks b
slotted_append keys marks [] b = refl
slotted_append keys marks (j ∷ a) b = ap (λ x. slot_entry keys marks j ∷ x) (slotted_append keys marks a b)

slotted_take : (keys marks : List ℕ) (r : ℕ) (l : List ℕ)
    → slotted keys marks (take r l) ≡ take r (slotted keys marks l)
slotted_take keys marks zero l = refl
slotted_take keys marks (suc r) [] = refl
slotted_take keys marks (suc r) (j ∷ l) = ap (λ x. slot_entry keys marks j ∷ x) (slotted_take keys marks r l)

slotted_drop : (keys marks : List ℕ) (r : ℕ) (l : List ℕ)
    → slotted keys marks (drop r l) ≡ drop r (slotted keys marks l)
slotted_drop keys marks zero l = refl
slotted_drop keys marks (suc r) [] = refl
slotted_drop keys marks (suc r) (j ∷ l) = slotted_drop keys marks r l

-- slots below n don't see what slot n becomes
slotted_below : (keys marks l : List ℕ) (n len from to : ℕ) → All (λ j. j < n) l
    → slotted keys (remarked (set marks (3 * n) len) n from to) l ≡ slotted keys marks l
slotted_below keys marks [] n len from to h = refl
slotted_below keys marks (j ∷ l) n len from to h =
    let d : j ≡ n → ⊥ = λ e. omega (arith, h.0) in
    let a : slot_entry keys (remarked (set marks (3 * n) len) n from to) j ≡ slot_entry keys marks j =
    entry_other keys (set marks (3 * n) len) j n from to d
    ∙ rw (
      get_or-set_other marks (3 * n) (3 * j) len 0 (λ e. d (omega arith)),
      get_or-set_other marks (3 * n) (3 * j + 1) len 0 (λ e. omega arith),
      get_or-set_other marks (3 * n) (3 * j + 2) len 0 (λ e. omega arith),
    ) in
    let b = slotted_below keys marks l n len from to h.1 in
    λ t. a t ∷ b t

below_more : (n : ℕ) (l : List ℕ) → All (λ j. j < n) l → All (λ j. j < n + 1) l
below_more n [] h = tt
below_more n (j ∷ l) h = (omega (arith, h.0), below_more n l h.1)

below_in : (n r : ℕ) (l : List ℕ) → All (λ j. j < n) l → All (λ j. j < n + 1) (take r l ++ n ∷ drop r l)
below_in n zero l h = (omega arith, below_more n l h)
below_in n (suc r) [] h = (omega arith, tt)
below_in n (suc r) (j ∷ l) h = (omega (arith, h.0), below_in n r l h.1)

module _ (keys marks order : List ℕ) (n len from to : ℕ) (S : SoundIndex keys marks order n) where
  abbrev map : List (List ℕ × Place)
  map = index keys marks order n

  abbrev rank : ℕ
  rank = rank_of texts (key_in keys n len) map

  -- the slots of an index are different
  apart : (i j : ℕ) → i < j → j < n → get_or order i 0 ≡ get_or order j 0 → ⊥
  apart i j h g e =
      let l : lex_of (at texts nowhere map i) (at texts nowhere map j) ≡ Less = ascending_at texts_order nowhere map i
      j S.ascends h (omega (arith, index_length keys marks order n S)) in
      let s : at texts nowhere map i ≡ at texts nowhere map j =
      ap (λ x. x.0) (index_at keys marks order n S i (omega arith)) ∙ ap (slot_key keys marks) e
      ∙ ap (λ x. x.0) (sym (index_at keys marks order n S j g)) in
      let t : lex_of (at texts nowhere map i) (at texts nowhere map j) ≡ Equal = ap
      (λ x. lex_of x (at texts nowhere map j)) s ∙ lex_itself (at texts nowhere map j) in
      let z : Less ≡ Equal = sym l ∙ t in
      let z : ◌≡◌ {A = ℕ} 0 1 = cc in omega arith

  -- another place for the slot at rank r
  over_at : (r : ℕ) (k : List ℕ) (i : ℕ) → r < n → k ≡ slot_key keys marks (get_or order r 0) → i < n
      → slot_entry keys (remarked marks (get_or order r 0) from to) (get_or order i 0)
      ≡ get_or (set map r (k, (from, to))) i
      nowhere
  over_at r k i h e g = go (eqb i r) refl
    where
      long : r < length map
      long = omega (arith, index_length keys marks order n S)

      go : (b : Bool) → eqb i r ≡ b
          → slot_entry keys (remarked marks (get_or order r 0) from to) (get_or order i 0) ≡ get_or
          (set map r (k, (from, to))) i nowhere
      go true p =
          let q : i ≡ r = eqb-true i r p in
          rw q (entry_own keys marks (get_or order r 0) from to
          (omega (arith, slot_below keys marks order n S r h, S.marked, S.counted))
          ∙ ap {B = List ℕ × Place} (λ x. (x, (from, to))) (sym e)
          ∙ sym (get_or-set_same map r (k, (from, to)) nowhere long))
      go false p =
          let q : i ≡ r → ⊥ = eqb-false i r p in
          entry_other keys marks (get_or order i 0) (get_or order r 0) from to (other (ltb i r) refl q)
          ∙ sym (index_at keys marks order n S i g) ∙ sym (get_or-set_other map r i (k, (from, to)) nowhere q)
        where
          other : (b : Bool) → ltb i r ≡ b → (i ≡ r → ⊥) → get_or order i 0 ≡ get_or order r 0 → ⊥
          other true p q s = apart i r (ltb-true i r p) h s
          other false p q s = apart r i (omega (arith, ltb-false i r p)) g (sym s)

  -- another place for the slot at rank r
  over_map : (r : ℕ) (k : List ℕ) → r < n → k ≡ slot_key keys marks (get_or order r 0)
      → index keys (remarked marks (get_or order r 0) from to) order n ≡ set map r (k, (from, to))
  over_map r k h e =
      ext_get_or nowhere (index keys marks' order n) (set map r (k, (from, to)))
      (slotted_length keys marks' (take n order)
      ∙ sym (length-set map r (k, (from, to)) ∙ slotted_length keys marks (take n order)))
      (λ i g. slotted_at keys marks' (take n order) i (omega (arith, slotted_length keys marks' (take n order)))
      ∙ ap (slot_entry keys marks') (get_or-take n order i 0
      (omega (arith, slotted_length keys marks' (take n order), long)))
      ∙ over_at r k i h e (omega (arith, slotted_length keys marks' (take n order), long)))
    where
      marks' : List ℕ
      marks' = remarked marks (get_or order r 0) from to

      long : length (take n order) ≡ n
      long = length-take-le n order (omega (arith, S.ordered, S.counted))

  pub settled_over : rank < n → is_same (lex_of (key_in keys n len) (slot_key keys marks (get_or order rank 0))) ≡ true
      → Settled keys marks order n len from to (remarked marks (get_or order rank 0) from to) order n
  settled_over h g =
      let slot = get_or order rank 0 in
      let below : slot < n = slot_below keys marks order n S rank h in
      let e : key_in keys n len ≡ slot_key keys marks slot = lex_same (key_in keys n len) (slot_key keys marks slot)
      (is_same_means (lex_of (key_in keys n len) (slot_key keys marks slot)) g) in
      let p : index keys (remarked marks slot from to) order n ≡ put texts (key_in keys n len) (from, to) map =
      over_map rank (key_in keys n len) h e
      ∙ sym (put_over texts nowhere (key_in keys n len) (from, to) map
      (omega (arith, index_length keys marks order n S))
      (ap (λ x. is_same (lex_of (key_in keys n len) x.0)) (index_at keys marks order n S rank h) ∙ g)) in
      record {
        map = p;
        sound = record {
          counted = S.counted;
          ordered = S.ordered;
          marked = marks_length marks slot from to ∙ S.marked;
          keyed = S.keyed;
          slots = S.slots;
          lengths = λ j l. omega (arith, S.lengths j l, length_kept marks j slot from to);
          ascends = ap (ascending texts) p ∙ put_ascending texts_order (key_in keys n len) (from, to) map S.ascends;
        };
      }

  -- the key in slot n, with its place
  own : length marks ≡ 6147 → n ≤ 2048
      → slot_entry keys (remarked (set marks (3 * n) len) n from to) n ≡ (key_in keys n len, (from, to))
  own h g =
      entry_own keys (set marks (3 * n) len) n from to (omega (arith, length-set marks (3 * n) len))
      ∙ ap {B = List ℕ × Place} (λ l. (take l (drop (137 * n) keys), (from, to)))
      (get_or-set_same marks (3 * n) len 0 (omega arith))

  into_map : (r : ℕ) → r ≤ n → n ≤ 2048
      → index keys (remarked (set marks (3 * n) len) n from to) (inserted order r n n) (n + 1) ≡ take r map
      ++ (key_in keys n len, (from, to)) ∷ drop r map
  into_map r h g =
      let marks' = remarked (set marks (3 * n) len) n from to in
      let l = take n order in
      let k : slot_entry keys marks' n ≡ (key_in keys n len, (from, to)) = own S.marked g in
      let a : slotted keys marks' (take r l) ≡ take r map =
      slotted_take keys marks' r l ∙ ap (take r) (slotted_below keys marks l n len from to S.slots) in
      let b : slotted keys marks' (drop r l) ≡ drop r map =
      slotted_drop keys marks' r l ∙ ap (drop r) (slotted_below keys marks l n len from to S.slots) in
      ap (slotted keys marks') (gap_front order r n n h (omega (arith, S.ordered)))
      ∙ slotted_append keys marks' (take r l) (n ∷ drop r l)
      ∙ (λ t. a t ++ k t ∷ b t)

  short : len ≤ 137 → (j : ℕ) → j < n + 1 → n ≤ 2048 → (b : Bool) → eqb j n ≡ b
      → get_or (remarked (set marks (3 * n) len) n from to) (3 * j) 0 ≤ 137
  short g j l m true e =
      let q : j ≡ n = eqb-true j n e in
      omega (
        arith,
        length_kept (set marks (3 * n) len) n n from to,
        length_kept (set marks (3 * n) len) j n from to,
        get_or-set_same marks (3 * n) len 0 (omega (arith, S.marked)),
        ap
            (λ i. get_or (set marks (3 * n) len) (3 * i) 0) q,
      )
  short g j l m false e =
      let q : j ≡ n → ⊥ = eqb-false j n e in
      omega (
        arith,
        length_kept (set marks (3 * n) len) j n from to,
        get_or-set_other marks (3 * n) (3 * j) len 0
            (λ x. q (omega arith)),
        S.lengths j (omega arith),
      )

  pub settled_into : n ≤ 2048 → len ≤ 137
      → (rank < n → is_same (lex_of (key_in keys n len) (slot_key keys marks (get_or order rank 0))) ≡ false)
      → Settled keys marks order n len from to (remarked (set marks (3 * n) len) n from to) (inserted order rank n n)
      (n + 1)
  settled_into g g' h =
      let marks' = remarked (set marks (3 * n) len) n from to in
      let within = rank_within keys marks order n S (key_in keys n len) in
      let p : index keys marks' (inserted order rank n n) (n + 1) ≡ put texts (key_in keys n len) (from, to) map =
      into_map rank within g
      ∙ sym (put_into texts nowhere (key_in keys n len) (from, to) map
      (λ l. let l' : rank < n = omega (arith, index_length keys marks order n S) in ap
      (λ x. is_same (lex_of (key_in keys n len) x.0)) (index_at keys marks order n S rank l') ∙ h l')) in
      record {
        map = p;
        sound = record {
          counted = omega arith;
          ordered = gap_length order rank n n within (omega (arith, S.ordered)) ∙ S.ordered;
          marked = marks_length (set marks (3 * n) len) n from to ∙ length-set marks (3 * n) len ∙ S.marked;
          keyed = S.keyed;
          slots = rw (gap_front order rank n n within (omega (arith, S.ordered)))
              (below_in n rank (take n order) S.slots);
          lengths = λ j l. short g' j l g (eqb j n) refl;
          ascends = ap (ascending texts) p ∙ put_ascending texts_order (key_in keys n len) (from, to) map S.ascends;
        };
      }

  -- as the code finds them: r is the rank, and b says whether the key stands there
  module _ (r : ℕ) (b : Bool) (e : r ≡ rank)
      (f : b ≡ (ltb r n && is_same (lex_of (key_in keys n len) (slot_key keys marks (get_or order r 0))))) where
    pub stood : b ≡ true
        → (rank < n) × (is_same (lex_of (key_in keys n len) (slot_key keys marks (get_or order rank 0))) ≡ true)
    stood t =
        let h = both_true (ltb r n) (is_same (lex_of (key_in keys n len) (slot_key keys marks (get_or order r 0))))
        (sym f ∙ t) in
        (rw e at (ltb-true r n h.0), rw e at h.1)

    missed : b ≡ false → rank < n
        → is_same (lex_of (key_in keys n len) (slot_key keys marks (get_or order rank 0))) ≡ false
    missed t l = rw (← e) (rw (lt-ltb r n (omega arith)) at (sym f ∙ t))

    pub settles_over : (slot : ℕ) (marks' : List ℕ) → b ≡ true → slot ≡ get_or order r 0
        → marks' ≡ remarked marks slot from to → Settled keys marks order n len from to marks' order n
    settles_over slot marks' t s m =
        let x : marks' ≡ remarked marks (get_or order rank 0) from to = m
        ∙ ap (λ j. remarked marks j from to) (s ∙ ap (λ i. get_or order i 0) e) in
        rw x (settled_over (stood t).0 (stood t).1)

    pub settles_into : (marks' order' : List ℕ) → n ≤ 2048 → len ≤ 137 → b ≡ false
        → marks' ≡ remarked (set marks (3 * n) len) n from to → order' ≡ inserted order r n n
        → Settled keys marks order n len from to marks' order' (n + 1)
    settles_into marks' order' g g' t m o =
        let y : order' ≡ inserted order rank n n = o ∙ ap (λ i. inserted order i n n) e in
        rw (m, y) (settled_into g g' (missed t))
