-- The characters of a text, byte by byte: what each turn of the search for their end knows.
use mathlib.Core.Path.{◌≡◌, refl, sym, ap, ◌∙◌}
use mathlib.Core.List.{List, [], ◌∷◌, ◌++◌, append_assoc, append-nil}
use mathlib.Core.Bool.{true, false}
use Prim.Native.Nat.{ℕ, zero, suc, ◌+◌, ◌-◌, ◌≤◌, ◌<◌}
use native.Mathlib.Numerals.{add-one}
use native.Mathlib.Omega.{arith}
use lib.Dec.{leb}
use lib.ListN.{length, get_or, take, drop, drop_of_length-le}
use lib.Seq.{drop-cons, take-suc}
use borrow.Author.Tests.{le-leb, lt-leb}
use Rattle.alerts.specs.Label.{continues, characters}
use Rattle.alerts.specs.Promises.Label.{Ends}
use Rattle.alerts.proofs.Laws.Label.{on_byte}

pub continues_low : (b : ℕ) → b < 128 → false ≡ continues b
continues_low b h = rw (lt-leb 128 b h) refl

pub continues_high : (b : ℕ) → 128 ≤ b → leb b 191 ≡ continues b
continues_high b h = rw (le-leb 128 b h) refl

-- the first n characters are the bytes before i and the first `left` characters from there
pub record Passed (s : List ℕ) (n left i : ℕ) : Type 0 where
  pub within : i ≤ length s
  pub whole : characters n s ≡ take i s ++ characters left (drop i s)

pub start : (s : List ℕ) (n : ℕ) → Passed s n n 0
start s n = record { within = omega arith; whole = refl }

first_byte : (left b : ℕ) (t : List ℕ) → continues b ≡ false → 0 < left
    → characters left (b ∷ t) ≡ b ∷ characters (left - 1) t
first_byte zero b t e h = absurd (omega arith)
first_byte (suc left) b t e h = rw e (ap (λ k. b ∷ characters k t) (omega arith))

-- one byte more is passed
one_more : (s : List ℕ) (n left left' i : ℕ) → Passed s n left i → i < length s
    → characters left (get_or s i 0 ∷ drop (suc i) s) ≡ get_or s i 0 ∷ characters left' (drop (suc i) s)
    → Passed s n left' (i + 1)
one_more s n left left' i p h e = record {
  within = omega arith;
  whole = rw (add-one, take-suc s i 0)
      (p.whole ∙ ap (λ l. take i s ++ l) (ap (characters left) (drop-cons s i 0 h) ∙ e)
      ∙ sym (append_assoc (take i s) (get_or s i 0 ∷ []) (characters left' (drop (suc i) s))));
}

pub goes_on : (s : List ℕ) (n left i : ℕ) → Passed s n left i → i < length s → continues (get_or s i 0) ≡ true
    → Passed s n left (i + 1)
goes_on s n left i p h e = one_more s n left left i p h (on_byte left (get_or s i 0) (drop (suc i) s) e)

pub begins : (s : List ℕ) (n left i : ℕ) → Passed s n left i → i < length s → continues (get_or s i 0) ≡ false
    → 0 < left
    → Passed s n (left - 1) (i + 1)
begins s n left i p h e k = one_more s n left (left - 1) i p h (first_byte left (get_or s i 0) (drop (suc i) s) e k)

-- the end: no character is left, or no byte
pub stops : (s : List ℕ) (n left i : ℕ) → Passed s n left i → i < length s → continues (get_or s i 0) ≡ false → left ≡ 0
    → Ends s n i
stops s n left i p h e z = record {
  within = p.within;
  taken = sym (p.whole ∙ ap (λ l. take i s ++ l) (rw (z, drop-cons s i 0, e) refl) ∙ append-nil (take i s));
}

pub ended : (s : List ℕ) (n left i : ℕ) → Passed s n left i → length s ≤ i → Ends s n i
ended s n left i p h = record {
  within = p.within;
  taken = sym (p.whole ∙ ap (λ l. take i s ++ l) (rw (drop_of_length-le s h) (none left)) ∙ append-nil (take i s));
}
  where
    none : (left : ℕ) → characters left [] ≡ []
    none zero = refl
    none (suc left) = refl
