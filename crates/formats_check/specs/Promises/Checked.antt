-- Promise. Checked reading: a value of a format stands at a place and is good; the place past it, else no.
use Rattle.std.specs.Prelude.{◌≡◌, List, [], ◌∷◌, Bool, true, ◌&&◌, ℕ, leb, length, drop, Option, Some}
use Rattle.formats.specs.Readers.{only_r, many_r}
use Rattle.formats.specs.Number.{number_r}
use Rattle.formats.specs.Class.{in_class}
use Rattle.basics.specs.Lists.{all}
use Rattle.formats.specs.Format.{Format, never, empty, number, signed, small, text, float, constant, list, choice, ◌&◌}
use Rattle.formats.specs.Format.{Value, read}
use Rattle.formats.specs.Promises.Outcome.{numbered, skipped}
use Rattle.formats_judge.specs.Judged.{at_most, either}

-- what the reader of a number answers
pub record Number (s : List ℕ) (at : ℕ) (o : Option (ℕ × ℕ)) : Type 0 where
  pub says : o ≡ numbered s (number_r (drop at s))

-- what a reader of some numbers answers, where it answers one
pub record IfGot (s : List ℕ) (at : ℕ) (o : Option (ℕ × ℕ)) : Type 0 where
  pub says : (n q : ℕ) → o ≡ Some (n, q) → o ≡ numbered s (number_r (drop at s))

-- CHECKED READING: r is the place past the value of f at `at`, where one stands there that P says true of, else Broken
pub record Checked (f : Format) (P : Value f → Bool) (s : List ℕ) (at : ℕ) (r : Option ℕ) : Type 0 where
  pub says : r ≡ skipped s (only_r P (read f) (drop at s))

-- questions 5 to 7 in one: what stands in a format's annotations holds
abbrev pub fine : (f : Format) → Value f → Bool
fine never = λ v. true
fine empty = λ v. true
fine (number lo hi) = λ n. leb lo n && leb n hi
fine (signed lo hi) = λ z. at_most lo z && at_most z hi
fine (small k) = λ v. true
fine (text l c) = λ v. leb (length v) l && in_class c v
fine float = λ v. true
fine (constant c) = λ v. true
fine (list l f) = λ v. leb (length v) l && all (fine f) v
fine (choice a b) = either (fine a) (fine b)
fine (a & b) = λ v. fine a v.0 && fine b v.1

abbrev pub Fine : Format → List ℕ → ℕ → Option ℕ → Type 0
Fine f s at r = Checked f (fine f) s at r

-- a walk over values: what it asks of each by what it knows, what it knows after it, and what it asks at the end
pub record Walk (S A : Type 0) : Type 0 where
  pub test : S → A → Bool
  pub next : S → A → S
  pub last : S → Bool

module _ {S A : Type 0} (w : Walk S A) where
  abbrev pub runs : S → List A → Bool
  runs k [] = w.last k
  runs k (a ∷ v) = w.test k a && runs (w.next k a) v

-- the answer of a walk over the n values of f from `at` on that knows k
pub record Walked (f : Format) {S : Type 0} (w : Walk S (Value f)) (k : S) (n : ℕ) (s : List ℕ) (at : ℕ) (r : Option ℕ)
    : Type 0 where
  pub says : r ≡ skipped s (only_r (runs w k) (many_r (read f) n) (drop at s))

-- a walk that is at p, knows j and has `left` before it: the answer from there on is the answer of the whole
pub record Ahead (f : Format) {S : Type 0} (w : Walk S (Value f)) (k : S) (n : ℕ) (s : List ℕ) (at : ℕ) (j : S)
    (left p : ℕ) : Type 0 where
  pub on : (x : Option ℕ) → Walked f w j left s p x → Walked f w k n s at x

-- a test as data, so that laws find it
pub data Test : Format → Type 0 where
  own : (f : Format) → (Value f → Bool) → Test f  -- one of its own
  behind : (a : Format) {b : Format} → Test b → Test (a & b)  -- annotations in front, and a test
  under : (a : Format) {b : Format} → (Value a → Test b) → Test (a & b)  -- the same, by what stands in front
  both : {a b : Format} → Test a → Test b → Test (a & b)  -- one and then the other
  also : {f : Format} → Test f → (Value f → Bool) → Test f  -- a test more

abbrev pub holds : {f : Format} → Test f → Value f → Bool
holds (own f P) v = P v
holds (behind a t) v = fine a v.0 && holds t v.1
holds (under a t) v = fine a v.0 && holds (t v.0) v.1
holds (both t u) v = holds t v.0 && holds u v.1
holds (also t Q) v = holds t v && Q v

pub record Tested (f : Format) (t : Test f) (s : List ℕ) (at : ℕ) (r : Option ℕ) : Type 0 where
  pub is : Checked f (holds t) s at r
