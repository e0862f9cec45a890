-- A value goes into a list, and what stands behind it moves one place on. Assumes nothing.
use Prim.Native.Nat.{ℕ, suc, ◌+◌, ◌-◌, ◌≤◌, ◌<◌}
use mathlib.Core.Path.{◌≡◌, sym, ap, ◌∙◌}
use mathlib.Core.List.{List, [], ◌∷◌, ◌++◌, append_assoc}
use native.Mathlib.Omega.{arith}
use borrow.Rule.Slice.PartMut.{put_mid}
use lib.ListN.{length, get_or, take, drop, set, length-append, length-drop, drop_of_length-le}
use lib.Seq.{drop-cons, length-take-le, take-take, take-add, take_at, drop_at, drop-drop}
use Rattle.slices.specs.Promises.Inserted.{inserted}

-- what goes round by one place, the last to the front, and is overwritten there
pub gap_turned : (a m r : List ℕ) (at end v : ℕ) → at ≤ end → end < length a → m ≡ take (end + 1 - at) (drop at a)
    → r ≡ drop (length m - 1) m ++ take (length m - 1) m
    → put_mid at (end + 1 - at) a (set r 0 v) ≡ inserted a at end v
gap_turned a m r at end v h g e f =
    let n : length m ≡ end + 1 - at =
    ap length e ∙ length-take-le (end + 1 - at) (drop at a) (omega (arith, length-drop at a)) in
    let k : length m - 1 ≡ end - at = omega arith in
    let all : length m ≤ suc (end - at) = omega arith in
    let last : drop (end - at) m ≡ get_or m (end - at) 0 ∷ [] =
    drop-cons m (end - at) 0 (omega arith) ∙ ap (λ l. get_or m (end - at) 0 ∷ l) (drop_of_length-le m all) in
    let front : take (end - at) m ≡ take (end - at) (drop at a) =
    ap (take (end - at)) e ∙ take-take (end - at) (end + 1 - at) (drop at a) (omega arith) in
    let turned : set r 0 v ≡ v ∷ take (end - at) (drop at a) = rw (f, k, last, front) in
    let to : at + (end + 1 - at) ≡ end + 1 = omega arith in
    rw (turned, drop-drop (end + 1 - at) at a, to)

-- the first places, one more than before
pub gap_front : (a : List ℕ) (r n v : ℕ) → r ≤ n → n < length a
    → take (n + 1) (inserted a r n v) ≡ take r (take n a) ++ v ∷ drop r (take n a)
gap_front a r n v h g =
    let e : r + (n - r) ≡ n = omega arith in
    let x : take r a ≡ take r (take n a) = sym (take-take r n a h) in
    let y : take (n - r) (drop r a) ≡ drop r (take n a) =
    sym (ap (λ k. drop r (take k a)) (sym e) ∙ ap (drop r) (take-add r (n - r) a)
    ∙ drop_at (take r a) (take (n - r) (drop r a)) r (length-take-le r a (omega arith))) in
    let l : length (take r a ++ v ∷ take (n - r) (drop r a)) ≡ n + 1 =
    omega (
      arith,
      length-append (take r a) (v ∷ take (n - r) (drop r a)),
      length-take-le r a (omega arith),
      length-take-le (n - r) (drop r a) (omega (arith, length-drop r a)),
    ) in
    ap (take (n + 1)) (sym (append_assoc (take r a) (v ∷ take (n - r) (drop r a)) (drop (n + 1) a)))
    ∙ take_at (take r a ++ v ∷ take (n - r) (drop r a)) (drop (n + 1) a) (n + 1) l
    ∙ (λ t. x t ++ v ∷ y t)

pub gap_length : (a : List ℕ) (r n v : ℕ) → r ≤ n → n < length a → length (inserted a r n v) ≡ length a
gap_length a r n v h g =
    omega (
      arith,
      length-append (take r a) (v ∷ (take (n - r) (drop r a) ++ drop (n + 1) a)),
      length-append (take (n - r) (drop r a)) (drop (n + 1) a),
      length-take-le r a (omega arith),
      length-take-le (n - r) (drop r a) (omega (arith, length-drop r a)),
      length-drop (n + 1) a,
    )

-- the same of a list in pieces: z gives way
pub inserted_at : (x m rest : List ℕ) (z v at end : ℕ) → at ≡ length x → end ≡ length x + length m
    → inserted (x ++ (m ++ z ∷ rest)) at end v ≡ x ++ (v ∷ (m ++ rest))
inserted_at x m rest z v at end p q =
    let u = x ++ (m ++ z ∷ rest) in
    let n : end - at ≡ length m = omega arith in
    let a : take at u ≡ x = take_at x (m ++ z ∷ rest) at (sym p) in
    let b : drop at u ≡ m ++ z ∷ rest = drop_at x (m ++ z ∷ rest) at (sym p) in
    let c : take (end - at) (drop at u) ≡ m = ap (take (end - at)) b ∙ take_at m (z ∷ rest) (end - at) (sym n) in
    let e : end + 1 ≡ at + (length m + 1) = omega arith in
    let d : drop (end + 1) u ≡ rest =
    ap (λ k. drop k u) e ∙ sym (drop-drop (length m + 1) at u)
    ∙ ap (drop (length m + 1)) (b ∙ sym (append_assoc m (z ∷ []) rest))
    ∙ drop_at (m ++ z ∷ []) rest (length m + 1) (length-append m (z ∷ [])) in
    λ i. a i ++ v ∷ (c i ++ d i)
