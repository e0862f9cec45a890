-- Law. The largest writing of a value that keeps its format's annotations: no value's is longer, and where the
-- limits can be met one is as long.
use Rattle.std.specs.Prelude.{◌≡◌, refl, List, [], ◌∷◌, Bool, true, false, cond, ◌&&◌, ℕ, zero, suc, ◌+◌, ◌*◌, ◌/◌, ◌^◌, ◌≤◌, ◌<◌, ℤ, pos, negsuc, length, replicate, leb, ltb, eqb}
use Rattle.std.proofs.Common.{sym, ap, inl, inr, arith, zero-mul, suc-mul, mul-le-mul_right, length-append, ltb-true, ltb-false, le-leb, leb-true, leb-false}
use Rattle.std.proofs.lemmas.Bool.{false≢true}
use Rattle.std.proofs.lemmas.List.{length-replicate}
use Rattle.formats.specs.Readers.{many_w}
use Rattle.basics.specs.Lists.{All, all}
use Rattle.formats.specs.Number.{groups_w, zig, little_w}
use Rattle.formats.specs.Class.{Class, any, printable, token, utf8, allowed, sequences, in_class}
use Rattle.formats.specs.Format.{Format, never, empty, number, signed, small, text, float, constant, list, choice, ◌&◌}
use Rattle.formats.specs.Format.{optional, Value, write, takes, Fits}
use Rattle.formats_judge.specs.Judged.{at_most, for_question, ok}
use Rattle.formats_capacity.specs.Laws.Capacity.{size, larger, capacity, Keeps, class_filled, attained, Largest}

-- a smaller number takes no more bytes
groups_mono : (k m n : ℕ) → m ≤ n → length (groups_w k m) ≤ length (groups_w k n)
groups_mono zero m n h = omega arith
groups_mono (suc k) m n h = go (ltb m 128) (ltb n 128) refl refl (groups_mono k (m / 128) (n / 128) (omega arith))
  where
    go : (t u : Bool) → ltb m 128 ≡ t → ltb n 128 ≡ u → length (groups_w k (m / 128)) ≤ length (groups_w k (n / 128))
        → length (groups_w (suc k) m) ≤ length (groups_w (suc k) n)
    go true true e f ih = rw (e, f) (omega arith)
    go true false e f ih = rw (e, f) (omega arith)
    go false true e f ih = absurd (omega (arith, ltb-false m 128 e, ltb-true n 128 f))
    go false false e f ih = rw (e, f) (omega arith)

pub size_mono : (m n : ℕ) → m ≤ n → size m ≤ size n
size_mono m n h = groups_mono 9 m n h

larger_left : (m n : ℕ) → m ≤ larger m n
larger_left m n = go (leb m n) refl
  where
    go : (t : Bool) → leb m n ≡ t → m ≤ larger m n
    go true e = rw e (leb-true m n e)
    go false e = rw e (omega arith)

larger_right : (m n : ℕ) → n ≤ larger m n
larger_right m n = go (leb m n) refl
  where
    go : (t : Bool) → leb m n ≡ t → n ≤ larger m n
    go true e = rw e (omega arith)
    go false e = rw e (omega (arith, leb-false m n e))

-- a conjunction taken apart
pub left : (x y : Bool) → (x && y) ≡ true → x ≡ true
left true y e = refl
left false y e = absurd (false≢true e)

pub right : (x y : Bool) → (x && y) ≡ true → y ≡ true
right true y e = e
right false y e = absurd (false≢true e)

-- between two signed numbers, the code is at most that of one of them
signed_size : (lo hi z : ℤ) → at_most lo z ≡ true → at_most z hi ≡ true
    → size (zig z) ≤ larger (size (zig lo)) (size (zig hi))
signed_size lo (pos m) (pos n) a b =
    omega (
      arith,
      size_mono (2 * n) (2 * m) (omega (arith, leb-true n m b)),
      larger_right (size (zig lo)) (size (2 * m)),
    )
signed_size lo (negsuc m) (pos n) a b = absurd (false≢true b)
signed_size (pos m) hi (negsuc n) a b = absurd (false≢true a)
signed_size (negsuc m) hi (negsuc n) a b =
    omega (
      arith,
      size_mono (2 * n + 1) (2 * m + 1) (omega (arith, leb-true n m a)),
      larger_left (size (2 * m + 1)) (size (zig hi)),
    )

little_size : (k n : ℕ) → length (little_w k n) ≡ k
little_size zero n = refl
little_size (suc k) n = ap suc (little_size k (n / 256))

-- values of one format that are at most so long each
many_size : (f : Format) (c : ℕ) → ((x : Value f) → Fits f x → Keeps f x → length (write f x) ≤ c)
    → (v : List (Value f)) → All (λ x. Fits f x × (takes f x ≡ true)) v
    → ((q : ℕ) → 5 ≤ q → q ≤ 7 → all (ok q f) v ≡ true) → length (many_w (write f) v) ≤ length v * c
many_size f c bound [] h k = omega arith
many_size f c bound (x ∷ v) h k =
    let a = bound x h.0.0 (λ q l m. left (ok q f x) (all (ok q f) v) (k q l m)) in
    let b = many_size f c bound v h.1 (λ q l m. right (ok q f x) (all (ok q f) v) (k q l m)) in
    rw (length-append, suc-mul (length v) c) (omega (arith, a, b))

pub capacity_bounds : (f : Format) (v : Value f) → Fits f v → Keeps f v → length (write f v) ≤ capacity f
capacity_bounds never v h k = absurd v
capacity_bounds empty v h k = omega arith
capacity_bounds (number lo hi) v h k =
    size_mono v hi (leb-true v hi (right (leb lo v) (leb v hi) (k 6 (omega arith) (omega arith))))
capacity_bounds (signed lo hi) v h k =
    let e = k 6 (omega arith) (omega arith) in
    signed_size lo hi v (left (at_most lo v) (at_most v hi) e) (right (at_most lo v) (at_most v hi) e)
capacity_bounds (small m) v h k = size_mono v m (leb-true v m h.1)
capacity_bounds (text l c) v h k =
    let n = leb-true (length v) l (left (leb (length v) l) (in_class c v) (k 5 (omega arith) (omega arith))) in
    rw length-append (omega (arith, n, size_mono (length v) l n))
capacity_bounds float v h k = omega (arith, little_size 8 v)
capacity_bounds (constant c) v h k = omega arith
capacity_bounds (list l f) v h k =
    let n = leb-true (length v) l (left (leb (length v) l) (all (ok 7 f) v) (k 7 (omega arith) (omega arith))) in
    let b = many_size f (capacity f) (capacity_bounds f) v h.1
    (λ q i j. right (for_question q 7 (leb (length v) l)) (all (ok q f) v) (k q i j)) in
    rw length-append (omega (arith, b, mul-le-mul_right (capacity f) n, size_mono (length v) l n))
capacity_bounds (choice a b) (inl x) h k = omega (arith, capacity_bounds a x h k, larger_left (capacity a) (capacity b))
capacity_bounds (choice a b) (inr y) h k =
    omega (arith, capacity_bounds b y h k, larger_right (capacity a) (capacity b))
capacity_bounds (a & b) v h k =
    rw length-append
    (omega (
      arith,
      capacity_bounds a v.0 h.0 (λ q l m. left (ok q a v.0) (ok q b v.1) (k q l m)),
      capacity_bounds b v.1 h.1 (λ q l m. right (ok q a v.0) (ok q b v.1) (k q l m)),
    ))

both : (x y : Bool) → x ≡ true → y ≡ true → (x && y) ≡ true
both x y e f = rw (e, f) refl

put_yes : (q m : ℕ) (x : Bool) → x ≡ true → for_question q m x ≡ true
put_yes q m x e = rw e (go (eqb q m))
  where
    go : (t : Bool) → cond t true true ≡ true
    go true = refl
    go false = refl

at_most_same : (z : ℤ) → at_most z z ≡ true
at_most_same (pos n) = le-leb n n (omega arith)
at_most_same (negsuc n) = le-leb n n (omega arith)

-- l times the same
module _ {A : Type 0} (x : A) where
  all_same : (p : A → Bool) → p x ≡ true → (l : ℕ) → all p (replicate l x) ≡ true
  all_same p e zero = refl
  all_same p e (suc l) = both (p x) (all p (replicate l x)) e (all_same p e l)

  every_same : (P : A → Type 0) → P x → (l : ℕ) → All P (replicate l x)
  every_same P h zero = tt
  every_same P h (suc l) = (h, every_same P h l)

  many_same : (w : A → List ℕ) (l : ℕ) → length (many_w w (replicate l x)) ≡ l * length (w x)
  many_same w zero = sym (zero-mul (length (w x)))
  many_same w (suc l) = rw (length-append, suc-mul l (length (w x)), many_same w l) (omega arith)

-- a text of one letter, which every class has
utf8_letters : (l : ℕ) → sequences (replicate l 97) [] ≡ true
utf8_letters zero = refl
utf8_letters (suc l) = utf8_letters l

class_letters : (c : Class) (l : ℕ) → class_filled c l ≡ true → in_class c (replicate l 97) ≡ true
class_letters any l e = refl
class_letters printable l e = all_same 97 (allowed printable) refl l
class_letters token zero e = absurd (false≢true e)
class_letters token (suc l) e = all_same 97 (allowed token) refl l
class_letters utf8 l e = utf8_letters l

largest_signed : (lo hi : ℤ) → attained (signed lo hi) ≡ true → Largest (signed lo hi)
largest_signed lo hi e = go (leb (size (zig lo)) (size (zig hi))) refl
  where
    order : at_most lo hi ≡ true
    order = left (at_most lo hi) _ e

    low : zig lo < 2 ^ 64
    low = ltb-true (zig lo) (2 ^ 64) (left (ltb (zig lo) (2 ^ 64)) _ (right (at_most lo hi) _ e))

    high : zig hi < 2 ^ 64
    high = ltb-true (zig hi) (2 ^ 64) (right (ltb (zig lo) (2 ^ 64)) _ (right (at_most lo hi) _ e))

    go : (t : Bool) → leb (size (zig lo)) (size (zig hi)) ≡ t → Largest (signed lo hi)
    go true t =
        record {
          value = hi;
          fits = high;
          keeps = λ q l m. put_yes q 6 _ (both _ _ order (at_most_same hi));
          long = rw t refl;
        }
    go false t =
        record {
          value = lo;
          fits = low;
          keeps = λ q l m. put_yes q 6 _ (both _ _ (at_most_same lo) order);
          long = rw t refl;
        }

largest_text : (l : ℕ) (c : Class) (v : List ℕ) → length v ≡ l → in_class c v ≡ true → l < 2 ^ 64 → Largest (text l c)
largest_text l c v s i h = record {
  value = v;
  fits = (rw s h, tt);
  keeps = λ q m n. put_yes q 5 (leb (length v) l && in_class c v)
      (both (leb (length v) l) (in_class c v) (rw s (le-leb l l (omega arith))) i);
  long = rw (length-append, s) refl;
}

largest_choice : (a b : Format) → (attained a ≡ true → Largest a) → (attained b ≡ true → Largest b)
    → attained (choice a b) ≡ true → Largest (choice a b)
largest_choice a b la lb e = go (leb (capacity a) (capacity b)) refl
  where
    go : (t : Bool) → leb (capacity a) (capacity b) ≡ t → Largest (choice a b)
    go true t = let x = lb (rw t at e) in
        record { value = inr x.value; fits = x.fits; keeps = x.keeps; long = rw t (omega (arith, x.long)) }
    go false t = let x = la (rw t at e) in
        record { value = inl x.value; fits = x.fits; keeps = x.keeps; long = rw t (omega (arith, x.long)) }

pub capacity_met : (f : Format) → attained f ≡ true → Largest f
capacity_met never e = absurd (false≢true e)
capacity_met empty e = record { value = tt; fits = tt; keeps = λ q l m. refl; long = refl }
capacity_met (number lo hi) e = record {
  value = hi;
  fits = ltb-true hi (2 ^ 64) (right (leb lo hi) _ e);
  keeps = λ q l m. put_yes q 6 _ (both _ _ (left (leb lo hi) _ e) (le-leb hi hi (omega arith)));
  long = refl;
}
capacity_met (signed lo hi) e = largest_signed lo hi e
capacity_met (small k) e =
    record { value = k; fits = (ltb-true k (2 ^ 64) e, le-leb k k (omega arith)); keeps = λ q l m. refl; long = refl }
capacity_met (text l c) e =
    largest_text l c (replicate l 97) (length-replicate l 97) (class_letters c l (right (ltb l (2 ^ 64)) _ e))
    (ltb-true l (2 ^ 64) (left (ltb l (2 ^ 64)) _ e))
capacity_met float e = record { value = 0; fits = omega arith; keeps = λ q l m. refl; long = refl }
capacity_met (constant c) e = record { value = tt; fits = tt; keeps = λ q l m. refl; long = refl }
capacity_met (list n f) e =
    let x = capacity_met f (left (attained f) _ (right (ltb n (2 ^ 64)) _ e)) in
    let some : takes f x.value ≡ true = rw x.long (right (attained f) _ (right (ltb n (2 ^ 64)) _ e)) in
    let s : length (replicate n x.value) ≡ n = length-replicate n x.value in
    record {
      value = replicate n x.value;
      fits = (
        rw s (ltb-true n (2 ^ 64) (left (ltb n (2 ^ 64)) _ e)),
        every_same x.value (λ y. Fits f y × (takes f y ≡ true)) (x.fits, some) n,
      );
      keeps = λ q l m. both _ _ (put_yes q 7 _ (rw s (le-leb n n (omega arith))))
          (all_same x.value (ok q f) (x.keeps q l m) n);
      long = rw (length-append, s, many_same x.value (write f) n, x.long) refl;
    }
capacity_met (choice a b) e = largest_choice a b (capacity_met a) (capacity_met b) e
capacity_met (a & b) e =
    let x = capacity_met a (left (attained a) (attained b) e) in
    let y = capacity_met b (right (attained a) (attained b) e) in
    record {
      value = (x.value, y.value);
      fits = (x.fits, y.fits);
      keeps = λ q l m. both _ _ (x.keeps q l m) (y.keeps q l m);
      long = rw (length-append, x.long, y.long) refl;
    }

-- a closed format's capacity is computed: document 01's limits on an alert give 515 + 2,051 + 66 + 3 times 2,081 bytes
abbrev ids : Format
ids = list 32 (text 64 printable)

pub alert_capacity : capacity
    (optional (text 512 utf8) & optional (text 2_048 utf8) & optional (text 64 utf8) & ids & ids & ids) ≡ 8_875
alert_capacity = refl
