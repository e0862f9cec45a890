-- Law. The first that passes, of two lists joined; and a map's look-up as such a search.
use Rattle.std.specs.Prelude.{◌≡◌, Bool, true, false, ℕ, eqb}
use Rattle.std.proofs.Math.Path.{refl, ap}
use Rattle.std.proofs.Common.{sym, ◌∙◌, eqb-true, eq-eqb}
use Rattle.std.proofs.Math.Bool.{cond}
use mathlib.Core.List.{List, [], ◌∷◌, ◌++◌}
use Rattle.std.proofs.Math.Option.{Option, none, some}
use Rattle.basics.specs.Options.{or_else}
use Rattle.basics.specs.Texts.{same}
use Rattle.basics.specs.Laws.Booleans.{false_true, both_ways}
use Rattle.basics.specs.Laws.Texts.{same_true, same_refl}
use Rattle.std.specs.declared.cmp.Ordering.{Ordering}
use Rattle.std.specs.declared.cmp.Ordering.TheVariants.{Less, Equal, Greater}
use Rattle.maps.specs.Map.{Ordered, by_order, get}
use Rattle.maps.specs.Order.{texts, numbers}
use Rattle.maps.proofs.Laws.Map.{Lawful}
use Rattle.maps.proofs.Laws.Order.{texts_order, numbers_order}
use Rattle.overlay.specs.Lookup.{first_that, value_of}

module _ {A : Type 0} (t : A → Bool) where
  or_first : (x : A) (b : Bool) (l m k : Option A) → k ≡ or_else l m
      → cond b (some x) k ≡ or_else (cond b (some x) l) m
  or_first x true l m k e = refl
  or_first x false l m k e = e

  pub first_append : (xs ys : List A) → first_that t (xs ++ ys) ≡ or_else (first_that t xs) (first_that t ys)
  unfolding first_that
  first_append [] ys = refl
  first_append (x ∷ xs) ys =
      or_first x (t x) (first_that t xs) (first_that t ys) (first_that t (xs ++ ys)) (first_append xs ys)

  pub first_one : (x : A) (l : List A) (b : Bool) → t x ≡ b → first_that t (x ∷ l) ≡ cond b (some x) (first_that t l)
  unfolding first_that
  first_one x l b e = ap (λ b. cond b (some x) (first_that t l)) e

  pub first_none : first_that t [] ≡ none
  unfolding first_that
  first_none = refl

-- a map's look-up
abbrev is_same : Ordering → Bool
is_same Less = false
is_same Equal = true
is_same Greater = false

is_same_means : (o : Ordering) → is_same o ≡ true → o ≡ Equal
is_same_means Less e = false_true e
is_same_means Equal e = refl
is_same_means Greater e = false_true e

-- by a test of keys that says when they are one
module _ {K : Type 0} {O : Ordered K} (W : Lawful O) (k : K) (t : K → Bool) (yes : (x : K) → t x ≡ true → x ≡ k)
    (itself : t k ≡ true) where
  tests : (x : K) → t x ≡ is_same (O.compare k x)
  tests x = both_ways (t x) (is_same (O.compare k x))
      (λ e. ap (λ y. is_same (O.compare k y)) (yes x e) ∙ ap is_same (W.itself k))
      (λ e. ap t (sym (W.same k x (is_same_means (O.compare k x) e))) ∙ itself)

  get_step : {A : Type 0} (e : K × A) (g : Option A) (r : Option (K × A)) (o : Ordering) (b : Bool) → b ≡ is_same o
      → g ≡ value_of r → by_order o g (some e.1) g ≡ value_of (cond b (some e) r)
  get_step e g r Less b i h = rw i h
  get_step e g r Equal b i h = rw i refl
  get_step e g r Greater b i h = rw i h

  get_first : {A : Type 0} (m : List (K × A)) → get O k m ≡ value_of (first_that (λ e. t e.0) m)
  unfolding first_that
  get_first [] = refl
  get_first (e ∷ m) =
      get_step e (get O k m) (first_that (λ e. t e.0) m) (O.compare k e.0) (t e.0) (tests e.0) (get_first m)

pub get_number : {A : Type 0} (n : ℕ) (m : List (ℕ × A))
    → get numbers n m ≡ value_of (first_that (λ e. eqb e.0 n) m)
get_number n m = get_first numbers_order n (λ x. eqb x n) (λ x e. eqb-true x n e) (eq-eqb n n refl) m

pub get_text : {A : Type 0} (x : List ℕ) (m : List (List ℕ × A))
    → get texts x m ≡ value_of (first_that (λ e. same e.0 x) m)
get_text x m = get_first texts_order x (λ y. same y x) (λ y e. same_true y x e) (same_refl x) m
