-- Law. A number's groups, where there is room for all of them.
use Rattle.std.specs.Prelude.{ℕ, ◌+◌, ◌-◌, ◌/◌, ◌%◌, ◌≤◌, ◌<◌, ◌≡◌, refl, List, length, set, Option, Some, None, [], ◌∷◌}
use Rattle.std.proofs.Common.{sym, ◌∙◌, arith, length-set}
use Rattle.std.proofs.Math.Seq.{sets-eq}
use Rattle.formats.specs.Number.{groups_w, number_w}
use Rattle.formats.specs.Promises.Number.{top}
use Rattle.formats_write.specs.Promises.Adds.{Adds}
use Rattle.formats_write.proofs.Laws as laws

-- a byte, where there is room for one
byte_in : {l : List ℕ} {at b : ℕ} → at < length l → Adds l (Some at) (set l at b) (Some (at + 1)) (b ∷ [])
byte_in {l} {at} {b} s = laws.room 1 (b ∷ []) refl refl (omega arith) (sets-eq (b ∷ []) l at (omega arith))

pub last_group : {l : List ℕ} {at : ℕ} (k n : ℕ) → n < 128 → at + k < length l
    → Adds l (Some at) (set l at n) (Some (at + 1)) (groups_w k n)
last_group k n h i = laws.group_one k n (byte_in (omega arith)) h refl

pub first_group : {l : List ℕ} {at n : ℕ} → n < 128 → at + 9 < length l
    → Adds l (Some at) (set l at n) (Some (at + 1)) (number_w n)
first_group {n} h i = last_group 9 n h i

pub more_groups : {l o : List ℕ} {at r : ℕ} (k n : ℕ) → 128 ≤ n → n < top k → at + k < length l
    → Adds (set l at (128 + n % 128)) (Some (at + 1)) o (Some r) (groups_w (k - 1) (n / 128))
    → Adds l (Some at) o (Some r) (groups_w k n)
more_groups k n h u i g = laws.group_more k n (byte_in (omega arith)) g h u refl

pub room_left : (l : List ℕ) (at k n v : ℕ) → 128 ≤ n → n < top k → at + k < length l
    → at + 1 + (k - 1) < length (set l at v)
room_left l at k n v h u i = rw (length-set l at v) (omega (arith, laws.another k n h u))

-- from a place that is one
pub from_at : {l m : List ℕ} {w q : Option ℕ} {at : ℕ} {x : List ℕ} → w ≡ Some at → Adds l (Some at) m q x
    → Adds l w m q x
from_at e a = rw e a

pub was_full : {l : List ℕ} {w : Option ℕ} (x : List ℕ) → w ≡ None → Adds l w l None x
was_full x e = record {
  size = refl;
  full = λ i. refl;
  next = λ p i h. absurd (let k = sym e ∙ i in (let z : ◌≡◌ {A = ℕ} 0 1 = cc in omega arith));
  holds = λ p i h. absurd (let k = sym e ∙ i in (let z : ◌≡◌ {A = ℕ} 0 1 = cc in omega arith));
  over = λ p i h k. refl;
}

pub same_size : (l : List ℕ) (at v : ℕ) {m : List ℕ} {w q : Option ℕ} {x : List ℕ} → Adds (set l at v) w m q x
    → length m ≡ length l
same_size l at v a = a.size ∙ length-set l at v

-- the same, to a next place that is written otherwise
more_at : {l o : List ℕ} {at r : ℕ} (k n p : ℕ) → p ≡ at + 1 → 128 ≤ n → n < top k → at + k < length l
    → Adds (set l at (128 + n % 128)) (Some p) o (Some r) (groups_w (k - 1) (n / 128))
    → Adds l (Some at) o (Some r) (groups_w k n)
more_at k n p e h u i g = more_groups k n h u i (rw e at g)

last_at : {l : List ℕ} {at : ℕ} (k n r : ℕ) → r ≡ at + 1 → n < 128 → at + k < length l
    → Adds l (Some at) (set l at n) (Some r) (groups_w k n)
last_at k n r e h i = rw e (last_group k n h i)

-- five groups
module _ (l : List ℕ) (at n : ℕ) (lo : 268435456 ≤ n) (hi : n < 34359738368) (room : at + 9 < length l) where
  abbrev l1 : List ℕ
  l1 = set l at (128 + n % 128)

  abbrev l2 : List ℕ
  l2 = set l1 (at + 1) (128 + n / 128 % 128)

  abbrev l3 : List ℕ
  l3 = set l2 (at + 2) (128 + n / 128 / 128 % 128)

  abbrev l4 : List ℕ
  l4 = set l3 (at + 3) (128 + n / 128 / 128 / 128 % 128)

  room1 : at + 9 < length l1
  room1 = rw length-set room

  room2 : at + 9 < length l2
  room2 = rw length-set room1

  room3 : at + 9 < length l3
  room3 = rw length-set room2

  room4 : at + 9 < length l4
  room4 = rw length-set room3

  pub five_groups : {o : List ℕ}
      → o ≡ set (set (set (set (set l at (128 + n % 128)) (at + 1) (128 + n / 128 % 128))
      (at + 2) (128 + n / 128 / 128 % 128)) (at + 3) (128 + n / 128 / 128 / 128 % 128))
      (at + 4) (n / 128 / 128 / 128 / 128)
      → Adds l (Some at) o (Some (at + 5)) (number_w n)
  five_groups z =
      rw z
      (more_at 9 n (at + 1) (omega arith) (omega arith) (omega arith) room
      (more_at 8 (n / 128) (at + 2) (omega arith) (omega arith) (omega arith) (omega (arith, room1))
      (more_at 7 (n / 128 / 128) (at + 3) (omega arith) (omega arith) (omega arith) (omega (arith, room2))
      (more_at 6 (n / 128 / 128 / 128) (at + 4) (omega arith) (omega arith) (omega arith) (omega (arith, room3))
      (last_at 5 (n / 128 / 128 / 128 / 128) (at + 5) (omega arith) (omega arith) (omega (arith, room4)))))))
