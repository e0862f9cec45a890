-- Law. The keys without '@': how they are counted.
use Rattle.std.specs.Prelude.{ℕ, suc, ◌+◌, ◌-◌, ◌*◌, ◌≤◌, ◌<◌, ◌≡◌, Bool, true, false, ◌||◌, eqb, length, get_or, take, drop}
use Rattle.std.proofs.Math.Path.{refl}
use Rattle.std.proofs.Common.{sym, ap, ◌∙◌, add-one, arith, drop-cons, eq-eqb, ne_eqb}
use Rattle.std.proofs.Math.Bool.{cond}
use mathlib.Core.List.{List, [], ◌∷◌, ◌++◌}
use Rattle.std.proofs.Math.Seq.{take-length}
use Rattle.basics.specs.Laws.Booleans.{or_assoc}
use Rattle.decode.specs.Leaves.{has_byte, count_without_at}
use Rattle.decode.specs.Sizes.{key_bytes}
use Rattle.decode_slots.specs.Index.{Place, slot_entry, slot_key, index}
use Rattle.decode_slots.specs.Places.{held}
use Rattle.decode_write.specs.Promises.Slots.{plain_keys}
use Rattle.decode_write.specs.Laws.Slots.{index_more}

-- a byte in a stretch, sought from its start
module _ (s : List ℕ) (i to : ℕ) (h : i < to) (k : to ≤ length s) where
  ahead : take (to - i) (drop i s) ≡ get_or s i 0 ∷ take (to - (i + 1)) (drop (i + 1) s)
  ahead =
      let n : to - i ≡ suc (to - suc i) = omega arith in
      rw (add-one i, n, drop-cons s i 0 (omega arith)) refl

  pub byte_here : (c : ℕ) → get_or s i 0 ≡ c → has_byte c (take (to - i) (drop i s)) ≡ true
  byte_here c e = rw (ahead, eq-eqb (get_or s i 0) c e) refl

  pub byte_later : (c : ℕ) → (get_or s i 0 ≡ c → ⊥)
      → has_byte c (take (to - i) (drop i s)) ≡ has_byte c (take (to - (i + 1)) (drop (i + 1) s))
  byte_later c e = rw (ahead, ne_eqb (get_or s i 0) c e) refl

pub byte_nowhere : (s : List ℕ) (i to c : ℕ) → to ≤ i → has_byte c (take (to - i) (drop i s)) ≡ false
byte_nowhere s i to c h = let n : to - i ≡ 0 = omega arith in rw n refl

-- one key more
plain_more : (m : List (List ℕ × Place)) (e : List ℕ × Place)
    → plain_keys (m ++ (e ∷ [])) ≡ cond (has_byte 64 e.0) (plain_keys m) (plain_keys m + 1)
unfolding plain_keys
plain_more [] e = refl
plain_more (d ∷ m) e = go (has_byte 64 d.0) (has_byte 64 e.0) (plain_more m e)
  where
    go : (x y : Bool) → plain_keys (m ++ (e ∷ [])) ≡ cond y (plain_keys m) (plain_keys m + 1)
        → cond x (plain_keys (m ++ (e ∷ []))) (suc (plain_keys (m ++ (e ∷ [])))) ≡ cond y
        (cond x (plain_keys m) (suc (plain_keys m))) (cond x (plain_keys m) (suc (plain_keys m)) + 1)
    go true true i = i
    go true false i = i
    go false true i = ap suc i
    go false false i = omega arith

module _ (keys marks order : List ℕ) (i : ℕ) (h : i < length order) where
  plain_index : plain_keys (index keys marks order (i + 1))
      ≡ cond (has_byte 64 (slot_key keys marks (get_or order i 0)))
      (plain_keys (index keys marks order i)) (plain_keys (index keys marks order i) + 1)
  plain_index =
      ap plain_keys (index_more keys marks order i h)
      ∙ plain_more (index keys marks order i) (slot_entry keys marks (get_or order i 0))

  module _ {n j : ℕ} {b : Bool} (e : n ≡ plain_keys (index keys marks order i)) (f : j ≡ get_or order i 0)
      (g : b ≡ has_byte 64 (slot_key keys marks j)) where
    asked : (c : Bool) → b ≡ c → has_byte 64 (slot_key keys marks (get_or order i 0)) ≡ c
    asked c x = ap (λ j. has_byte 64 (slot_key keys marks j)) (sym f) ∙ sym g ∙ x

    pub plain_counted : b ≡ false → n + 1 ≡ plain_keys (index keys marks order (i + 1))
    plain_counted x = rw (plain_index, asked false x) (omega arith)

    pub plain_passed : b ≡ true → n ≡ plain_keys (index keys marks order (i + 1))
    plain_passed x = rw (plain_index, asked true x) e

pub plain_none : (keys marks order : List ℕ) → 0 ≡ plain_keys (index keys marks order 0)
unfolding plain_keys
plain_none keys marks order = refl

pub plain_done : (keys marks order : List ℕ) {count i n : ℕ} → count ≡ plain_keys (index keys marks order i) → i ≤ n
    → n ≤ i → count ≡ plain_keys (index keys marks order n)
plain_done keys marks order {i} {n} e h k =
    let z : i ≡ n = omega arith in e ∙ ap (λ i. plain_keys (index keys marks order i)) z

-- with the feed's id before each
byte_either : (c : ℕ) (x y : List ℕ) → has_byte c (x ++ y) ≡ has_byte c x || has_byte c y
byte_either c [] y = refl
byte_either c (b ∷ x) y =
    ap (λ r. eqb b c || r) (byte_either c x y) ∙ sym (or_assoc (eqb b c) (has_byte c x) (has_byte c y))

module _ (feed s o : List ℕ) where
  pub none_plain : has_byte 64 feed ≡ true → (m : List (List ℕ × Place)) → count_without_at feed (held s o m) ≡ 0
  unfolding count_without_at held
  none_plain h [] = refl
  none_plain h (e ∷ m) = rw (byte_either 64 feed (58 ∷ e.0), h) (none_plain h m)

  pub all_plain : has_byte 64 feed ≡ false → (m : List (List ℕ × Place))
      → count_without_at feed (held s o m) ≡ plain_keys m
  unfolding count_without_at held plain_keys
  all_plain h [] = refl
  all_plain h (e ∷ m) =
      rw (byte_either 64 feed (58 ∷ e.0), h)
      (ap (λ n. cond (has_byte 64 e.0) n (suc n)) (all_plain h m))

-- in a slot's key
pub key_byte : (keys marks : List ℕ) (j : ℕ) {size : ℕ} {b : Bool} → size ≡ get_or marks (3 * j) 0
    → b ≡ has_byte 64 (take (key_bytes * j + size - key_bytes * j) (drop (key_bytes * j) keys))
    → b ≡ has_byte 64 (slot_key keys marks j)
key_byte keys marks j {size} e a =
    let d : key_bytes * j + size - key_bytes * j ≡ get_or marks (3 * j) 0 = omega arith in
    a ∙ ap (λ k. has_byte 64 (take k (drop (key_bytes * j) keys))) d

-- in the whole of a text
pub whole_byte : (s : List ℕ) {b c : Bool} → b ≡ has_byte 64 (take (length s - 0) (drop 0 s)) → b ≡ c
    → has_byte 64 s ≡ c
whole_byte s e f =
    let n : length s - 0 ≡ length s = omega arith in
    sym (ap (λ k. has_byte 64 (take k s)) n ∙ ap (has_byte 64) (take-length s)) ∙ sym e ∙ f
