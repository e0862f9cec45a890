-- What each writer adds, by the tests that the code makes.
use Rattle.std.specs.Prelude.{Option, Some, None}
use mathlib.Core.Path.{◌≡◌, refl, sym, ap, ◌∙◌}
use mathlib.Core.List.{List, [], ◌∷◌}
use mathlib.Core.Logic.{◌⊎◌, inl, inr}
use Prim.Native.Nat.{ℕ, zero, suc, ◌+◌, ◌-◌, ◌/◌, ◌%◌, ◌≤◌, ◌<◌}
use native.Mathlib.Omega.{arith}
use lib.ListN.{length, take, drop}
use lib.Seq.{length-sets, sets-eq, slice, length-slice}
use borrow.Author.Tests.{lt-ltb, le-ltb}
use Rattle.slices.specs.Lists.{pasted}
use Rattle.formats.specs.Number.{groups_w, number_w, little_w}
use Rattle.formats.specs.Promises.Number.{top}
use Rattle.formats_write.specs.Laws.Adds.{then, same}
use Rattle.formats_write.specs.Promises.Adds.{Adds}
use Rattle.formats_write.specs.Laws.Slices.{slice_is}
use Rattle.formats_write.specs.Promises.Given.{optional_w, text_w}

at_full : {C : Type 0} {p : ℕ} → Some p ≡ None → C
at_full e = absurd (let z : ◌≡◌ {A = ℕ} 0 1 = cc in omega arith)

at_at : {p q : ℕ} → Some p ≡ Some q → p ≡ q
at_at e = cc

-- room for n bytes
pub room : {l m : List ℕ} {r : Option ℕ} {at : ℕ} (n : ℕ) (x : List ℕ) → length x ≡ n → r ≡ Some at → at + n ≤ length l
    → m ≡ pasted l at x → Adds l r m (Some (at + n)) x
room {l} {m} {r} {at} n x c e s k = record {
  size = ap length (k ∙ sym (sets-eq x l at (omega arith))) ∙ length-sets l at x;
  full = λ i. at_full (sym e ∙ i);
  next = λ p i h. let z : at ≡ p = at_at (sym e ∙ i) in ap Some (omega arith);
  holds = λ p i h. let z : at ≡ p = at_at (sym e ∙ i) in k ∙ ap (λ p. pasted l p x) z;
  over = λ p i h o. let z : at ≡ p = at_at (sym e ∙ i) in absurd (omega arith);
}

-- groups of seven bits
one_group : (k n : ℕ) → n < 128 → groups_w k n ≡ n ∷ []
one_group zero n h = refl
one_group (suc k) n h = rw (lt-ltb n 128 h) refl

more_groups : (k n : ℕ) → 128 ≤ n → 1 ≤ k → groups_w k n ≡ (128 + n % 128) ∷ groups_w (k - 1) (n / 128)
more_groups zero n h l = absurd (omega arith)
more_groups (suc k) n h l = let e : suc k - 1 ≡ k = omega arith in rw (e, le-ltb n 128 h) refl

pub another : (k n : ℕ) → 128 ≤ n → n < top k → 1 ≤ k
another zero n h l = absurd (omega arith)
another (suc k) n h l = omega arith

pub another_fits : (k n : ℕ) → 128 ≤ n → n < top k → n / 128 < top (k - 1)
another_fits zero n h l = absurd (omega arith)
another_fits (suc k) n h l = let e : suc k - 1 ≡ k = omega arith in rw e (omega arith)

pub fewer : (k n t : ℕ) → 128 ≤ n → n < top k → k ≡ t → k - 1 < t
fewer k n t h u e = omega (arith, another k n h u)

pub group_one : {l m : List ℕ} {r q : Option ℕ} {b : ℕ} (k n : ℕ) → Adds l r m q (b ∷ []) → n < 128 → b ≡ n
    → Adds l r m q (groups_w k n)
group_one k n f h e = same f (rw e (sym (one_group k n h)))

pub group_more : {l m o : List ℕ} {r q p : Option ℕ} {b : ℕ} (k n : ℕ) → Adds l r m q (b ∷ [])
    → Adds m q o p (groups_w (k - 1) (n / 128)) → 128 ≤ n → n < top k → b ≡ 128 + n % 128
    → Adds l r o p (groups_w k n)
group_more k n f g h u e = same (then f g) (rw e (sym (more_groups k n h (another k n h u))))

-- bytes, low first
pub little_more : {l m o : List ℕ} {r q p : Option ℕ} {b : ℕ} (k n : ℕ) → (k ≡ 0 → ⊥) → Adds l r m q (b ∷ [])
    → Adds m q o p (little_w (k - 1) (n / 256)) → b ≡ n % 256 → Adds l r o p (little_w k n)
little_more zero n z f g e = absurd (z refl)
little_more (suc k) n z f g e = let i : suc k - 1 ≡ k = omega arith in same (then f g) (rw (i, e) refl)

-- a stretch
module _ {l : List ℕ} {r : Option ℕ} {at : ℕ} (s : List ℕ) (a e : ℕ) (i : r ≡ Some at) (h : a ≤ e)
    (k : e ≤ length s) where
  pub stretch_in : {m v : List ℕ} → v ≡ take (e - a) (drop a s) → at ≤ length l → length v ≤ length l - at
      → m ≡ pasted l at v → Adds l r m (Some (at + length v)) (slice a e s)
  stretch_in {v} f p o j =
      let same : v ≡ slice a e s = f ∙ slice_is a e s h k in
      room (length v) (slice a e s) (ap length (sym same)) i (omega arith) (j ∙ ap (pasted l at) same)

-- a text
pub text_is : {l m o : List ℕ} {r k j : Option ℕ} (s : List ℕ) (a e : ℕ) → a ≤ e → e ≤ length s
    → Adds l r m k (number_w (e - a)) → (a ≤ e → e ≤ length s → Adds m k o j (slice a e s))
    → Adds l r o j (text_w (slice a e s))
text_is s a e h k f g = then (same f (ap number_w (sym (length-slice a e s k)))) (g h k)

-- an optional value: the code's v stands for g v, of which f gives the value that is there
pub optional_is : {A B : Type 0} {l m : List ℕ} {r q : Option ℕ} (w : B → List ℕ) (g : Option A → Unit {0} ⊎ B)
    (f : A → B)
    → g None ≡ inl tt → ((x : A) → g (Some x) ≡ inr (f x)) → (v : Option A) → (v ≡ None → Adds l r m q (0 ∷ []))
    → ((x : A) → v ≡ Some x → Adds l r m q (1 ∷ w (f x))) → Adds l r m q (optional_w w (g v))
optional_is w g f a b None n p = rw a (n refl)
optional_is w g f a b (Some x) n p = rw (b x) (p x refl)
