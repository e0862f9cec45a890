-- Law. Checked reading of what has no parts: numbers in a range, small and signed numbers, texts, floats, one byte.
use Rattle.std.specs.Prelude.{◌≡◌, refl, List, Bool, true, false, ℕ, ◌+◌, ◌-◌, ◌*◌, ◌/◌, ◌%◌, ◌≤◌, ◌<◌, ℤ, pos, negsuc, length, take, drop, leb, eqb, Option, Some, None}
use Rattle.std.proofs.Common.{◌∙◌, arith, length-drop, length-take-le, drop-drop, le-leb, leb-true, leb-false, eq-eqb, ne_eqb}
use Rattle.std.proofs.Math.Option.{some, none}
use Rattle.std.proofs.lemmas.Bool.{lt-leb}
use Rattle.formats.specs.Number.{number_r, little_r, zag}
use Rattle.formats.specs.Readers.{const_r}
use Rattle.formats.specs.Laws.Number.{number_law, little_law}
use Rattle.formats.specs.Class.{any}
use Rattle.formats.specs.Format.{number, signed, small, text, float, constant, read}
use Rattle.formats.specs.Promises.Outcome.{numbered, skipped}
use Rattle.formats.proofs.Numbers.{NumberGot, got, bad_none}
use Rattle.formats_check.specs.Promises.Checked.{Number, fine, Fine}
use Rattle.formats_check.specs.Laws.Checked.{Out, filter, is_none, is_good, is_bad}

-- NUMBERS: what the reader of numbers found, and the formats that are a number in other clothes
module _ {s : List ℕ} {at : ℕ} {o : Option (ℕ × ℕ)} (e : Number s at o) where
  pub no_number : o ≡ None → number_r (drop at s) ≡ none
  no_number h = bad_none s (number_r (drop at s)) o e.says h

  pub a_number : {n p : ℕ} → o ≡ Some (n, p) → NumberGot number_r s at n p
  a_number {n} {p} h = got number_law s at n p o e.says h

  pub in_place : {n p : ℕ} → o ≡ Some (n, p) → p ≤ length s
  in_place h = (a_number h).within

-- a number in a range
module _ (lo hi : ℕ) {s : List ℕ} {at : ℕ} {o : Option (ℕ × ℕ)} (e : Number s at o) where
  pub number_no : o ≡ None → Fine (number lo hi) s at None
  number_no h = is_none (number lo hi) (fine (number lo hi)) s at (no_number e h)

  module _ {n p : ℕ} (h : o ≡ Some (n, p)) where
    pub number_low : n < lo → Fine (number lo hi) s at None
    number_low l = is_bad (number lo hi) (fine (number lo hi)) s at n p (a_number e h).reads (rw (lt-leb lo n l) refl)

    pub number_high : lo ≤ n → hi < n → Fine (number lo hi) s at None
    number_high l u = is_bad (number lo hi) (fine (number lo hi)) s at n p (a_number e h).reads (rw
        (le-leb lo n l, lt-leb n hi u) refl)

    pub number_so : lo ≤ n → n ≤ hi → Fine (number lo hi) s at (Some p)
    number_so l u = is_good (number lo hi) (fine (number lo hi)) s at n p (a_number e h).reads (rw
        (le-leb lo n l, le-leb n hi u) refl) (a_number e h).within

-- a flag or another small number
module _ (k : ℕ) {s : List ℕ} {at : ℕ} {o : Option (ℕ × ℕ)} (e : Number s at o) where
  pub small_no : o ≡ None → Fine (small k) s at None
  small_no h = is_none (small k) (fine (small k)) s at (rw (no_number e h) refl)

  module _ {n p : ℕ} (h : o ≡ Some (n, p)) where
    pub small_over : k < n → Fine (small k) s at None
    small_over u = is_none (small k) (fine (small k)) s at (rw ((a_number e h).reads, lt-leb n k u) refl)

    pub small_so : n ≤ k → Fine (small k) s at (Some p)
    small_so u = is_good (small k) (fine (small k)) s at n p (rw ((a_number e h).reads, le-leb n k u) refl) refl
        (a_number e h).within

-- a signed number, by a test on how it is written
module _ (lo hi : ℤ) {s : List ℕ} {at : ℕ} {o : Option (ℕ × ℕ)} (e : Number s at o) where
  pub signed_no : o ≡ None → Fine (signed lo hi) s at None
  signed_no h = is_none (signed lo hi) (fine (signed lo hi)) s at (rw (no_number e h) refl)

  module _ {n p : ℕ} (h : o ≡ Some (n, p)) where
    pub signed_bad : fine (signed lo hi) (zag n) ≡ false → Fine (signed lo hi) s at None
    signed_bad t = is_bad (signed lo hi) (fine (signed lo hi)) s at (zag n) p (rw (a_number e h).reads refl) t

    pub signed_so : fine (signed lo hi) (zag n) ≡ true → Fine (signed lo hi) s at (Some p)
    signed_so t = is_good (signed lo hi) (fine (signed lo hi)) s at (zag n) p (rw (a_number e h).reads refl) t
        (a_number e h).within

-- from -m-1 to m: written, up to 2m+1
module _ (m n : ℕ) where
  pub around_in : n ≤ 2 * m + 1 → fine (signed (negsuc m) (pos m)) (zag n) ≡ true
  around_in h = go (eqb (n % 2) 0) refl
    where
      go : (t : Bool) → eqb (n % 2) 0 ≡ t → fine (signed (negsuc m) (pos m)) (zag n) ≡ true
      go true e = rw (e, le-leb (n / 2) m (omega arith)) refl
      go false e = rw (e, le-leb (n / 2) m (omega arith)) refl

  pub around_over : 2 * m + 1 < n → fine (signed (negsuc m) (pos m)) (zag n) ≡ false
  around_over h = go (eqb (n % 2) 0) refl
    where
      go : (t : Bool) → eqb (n % 2) 0 ≡ t → fine (signed (negsuc m) (pos m)) (zag n) ≡ false
      go true e = rw (e, lt-leb (n / 2) m (omega arith)) refl
      go false e = rw (e, lt-leb (n / 2) m (omega arith)) refl

  -- from 0 to m: written, even and up to 2m
  pub upward_in : n % 2 ≡ 0 → n ≤ 2 * m → fine (signed (pos 0) (pos m)) (zag n) ≡ true
  upward_in z h = rw (eq-eqb (n % 2) 0 z, le-leb 0 (n / 2) (omega arith), le-leb (n / 2) m (omega arith)) refl

  pub upward_over : n % 2 ≡ 0 → 2 * m < n → fine (signed (pos 0) (pos m)) (zag n) ≡ false
  upward_over z h = rw (eq-eqb (n % 2) 0 z, le-leb 0 (n / 2) (omega arith), lt-leb (n / 2) m (omega arith)) refl

  pub upward_below : (n % 2 ≡ 0 → ⊥) → fine (signed (pos 0) (pos m)) (zag n) ≡ false
  upward_below z = rw (ne_eqb (n % 2) 0 z) refl

-- A TEXT of any bytes and a limit
module _ (l : ℕ) {s : List ℕ} {at : ℕ} {o : Option (ℕ × ℕ)} (e : Number s at o) where
  abbrev Text : Option ℕ → Type 0
  Text r = Fine (text l any) s at r

  pub text_no : o ≡ None → Text None
  text_no h = is_none (text l any) (fine (text l any)) s at (rw (no_number e h) refl)

  module _ {n p : ℕ} (h : o ≡ Some (n, p)) where
    pub text_short : length s - p < n → Text None
    text_short k = is_none (text l any) (fine (text l any)) s at (rw (
      (a_number e h).reads,
      lt-leb n (length (drop p s))
          (rw length-drop k),
    ) refl)

    sized : n ≤ length s - p → length (take n (drop p s)) ≡ n
    sized k = length-take-le n (drop p s) (rw length-drop k)

    pub text_read : n ≤ length s - p → read (text l any) (drop at s) ≡ some (take n (drop p s), drop (p + n) s)
    text_read k = rw ((a_number e h).reads, le-leb n (length (drop p s)) (rw length-drop k), drop-drop n p s) refl

    pub text_over : l < n → Text None
    text_over k = go (leb n (length s - p)) refl
      where
        go : (t : Bool) → leb n (length s - p) ≡ t → Text None
        go true i = let j = leb-true n (length s - p) i in is_bad (text l any) (fine (text l any)) s at _ (p + n)
            (text_read j) (rw (sized j, lt-leb n l k) refl)
        go false i = text_short (leb-false n (length s - p) i)

    pub text_so : n ≤ length s - p → n ≤ l → Text (Some (p + n))
    text_so k m = is_good (text l any) (fine (text l any)) s at _ (p + n) (text_read k) (rw
        (sized k, le-leb n l m) refl) (omega (arith, (a_number e h).within))

-- A FLOAT: any eight bytes
module _ {s : List ℕ} {at : ℕ} {o : Option (ℕ × ℕ)} (e : o ≡ numbered s (little_r 8 (drop at s))) where
  pub float_no : o ≡ None → Fine float s at None
  float_no h = is_none float (fine float) s at (bad_none s (little_r 8 (drop at s)) o e h)

  pub float_so : {n p : ℕ} → o ≡ Some (n, p) → Fine float s at (Some p)
  float_so {n} {p} h =
      let G = got (little_law 8) s at n p o e h in
      is_good float (fine float) s at n p G.reads refl G.within

-- ONE BYTE
pub constant_so : (c : ℕ) {s : List ℕ} {at : ℕ} {r : Option ℕ} → r ≡ skipped s (const_r c (drop at s))
    → Fine (constant c) s at r
constant_so c {s} {at} e = record { says = e ∙ go (const_r c (drop at s)) }
  where
    go : (o : Out (Unit {0})) → skipped s o ≡ skipped s (filter (λ v. true) o)
    go none = refl
    go (some x) = refl
