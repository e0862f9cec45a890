-- Law. A value that keeps its format's annotations has a writing, where the annotations themselves are below 2^64.
use Rattle.std.specs.Prelude.{◌≡◌, List, [], ◌∷◌, true, ◌&&◌, ℕ, ◌^◌, ◌≤◌, ◌<◌, ℤ, pos, negsuc, length, leb, ltb}
use Rattle.std.proofs.Common.{inl, inr, arith, lt-ltb, ltb-true, le-leb, leb-true}
use Rattle.std.proofs.lemmas.Bool.{false≢true}
use Rattle.basics.specs.Lists.{All, all}
use Rattle.formats.specs.Number.{zig}
use Rattle.formats.specs.Class.{in_class}
use Rattle.formats.specs.Format.{Format, never, empty, number, signed, small, text, float, constant, list, choice, ◌&◌}
use Rattle.formats.specs.Format.{Value, write, takes, Fits}
use Rattle.formats.specs.Laws.Format.{nonempty, takes_nonempty}
use Rattle.formats_judge.specs.Judged.{at_most, for_question, ok}
use Rattle.formats_capacity.specs.Laws.Capacity.{Keeps, capacity}
use Rattle.formats_capacity.specs.Laws.Fitting.{sensible, Formed}
use Rattle.formats_capacity.proofs.Laws.Capacity.{capacity_bounds, left, right}

signed_fits : (lo hi z : ℤ) → zig lo < 2 ^ 64 → zig hi < 2 ^ 64 → at_most lo z ≡ true → at_most z hi ≡ true
    → zig z < 2 ^ 64
signed_fits lo (pos m) (pos n) a b c d = omega (arith, leb-true n m d)
signed_fits lo (negsuc m) (pos n) a b c d = absurd (false≢true d)
signed_fits (pos m) hi (negsuc n) a b c d = absurd (false≢true c)
signed_fits (negsuc m) hi (negsuc n) a b c d = omega (arith, leb-true n m c)

many_fit : (f : Format) → ((x : Value f) → Formed f x → Keeps f x → Fits f x) → nonempty f ≡ true
    → (v : List (Value f)) → All (Formed f) v → ((q : ℕ) → 5 ≤ q → q ≤ 7 → all (ok q f) v ≡ true)
    → All (λ x. Fits f x × (takes f x ≡ true)) v
many_fit f fit e [] h k = tt
many_fit f fit e (x ∷ v) h k = (
  (
    fit x h.0 (λ q l m. left (ok q f x) (all (ok q f) v) (k q l m)),
    lt-ltb 0 (length (write f x)) (takes_nonempty f x e),
  ),
  many_fit f fit e v h.1 (λ q l m. right (ok q f x) (all (ok q f) v) (k q l m)),
)

pub keeps_fits : (f : Format) → sensible f ≡ true → (v : Value f) → Formed f v → Keeps f v → Fits f v
keeps_fits never e v h k = absurd v
keeps_fits empty e v h k = tt
keeps_fits (number lo hi) e v h k =
    omega (arith, leb-true v hi (right (leb lo v) (leb v hi) (k 6 (omega arith) (omega arith))), ltb-true hi (2 ^ 64) e)
keeps_fits (signed lo hi) e v h k =
    let a = k 6 (omega arith) (omega arith) in
    signed_fits lo hi v
    (ltb-true (zig lo) (2 ^ 64) (left (ltb (zig lo) (2 ^ 64)) (ltb (zig hi) (2 ^ 64)) e))
    (ltb-true (zig hi) (2 ^ 64) (right (ltb (zig lo) (2 ^ 64)) (ltb (zig hi) (2 ^ 64)) e))
    (left (at_most lo v) (at_most v hi) a) (right (at_most lo v) (at_most v hi) a)
keeps_fits (small m) e v h k = (omega (arith, ltb-true m (2 ^ 64) e), le-leb v m h)
keeps_fits (text l c) e v h k = (
  omega (
    arith,
    leb-true (length v) l (left (leb (length v) l) (in_class c v) (k 5 (omega arith) (omega arith))),
    ltb-true l (2 ^ 64) e,
  ),
  tt,
)
keeps_fits float e v h k = h
keeps_fits (constant c) e v h k = tt
keeps_fits (list l f) e v h k =
    let s = right (ltb l (2 ^ 64)) (sensible f && nonempty f) e in (
      omega (
        arith,
        leb-true (length v) l (left (leb (length v) l) (all (ok 7 f) v) (k 7 (omega arith) (omega arith))),
        ltb-true l (2 ^ 64) (left (ltb l (2 ^ 64)) (sensible f && nonempty f) e),
      ),
      many_fit f (keeps_fits f (left (sensible f) (nonempty f) s)) (right (sensible f) (nonempty f) s) v h
          (λ q i j. right (for_question q 7 (leb (length v) l)) (all (ok q f) v) (k q i j)),
    )
keeps_fits (choice a b) e (inl x) h k = keeps_fits a (left (sensible a) (sensible b) e) x h k
keeps_fits (choice a b) e (inr y) h k = keeps_fits b (right (sensible a) (sensible b) e) y h k
keeps_fits (a & b) e v h k = (
  keeps_fits a (left (sensible a) (sensible b) e) v.0 h.0
      (λ q l m. left (ok q a v.0) (ok q b v.1) (k q l m)),
  keeps_fits b (right (sensible a) (sensible b) e) v.1 h.1
      (λ q l m. right (ok q a v.0) (ok q b v.1) (k q l m)),
)

-- so that no value that keeps them is longer than the capacity
pub keeps_bounds : (f : Format) → sensible f ≡ true → (v : Value f) → Formed f v → Keeps f v
    → length (write f v) ≤ capacity f
keeps_bounds f e v h k = capacity_bounds f v (keeps_fits f e v h k) k
