-- Law. The number of a product code, and the name of a line by its number.
use Rattle.std.specs.Prelude.{◌≡◌, refl, List, [], ◌∷◌, Bool, true, false, cond, ◌&&◌, ℕ, suc, ◌+◌, ◌-◌, ◌*◌, ◌≤◌, ◌<◌, eqb, leb, length, get_or, drop, Option, Some}
use Rattle.std.proofs.Common.{sym, ap, ◌∙◌, arith, leb-true, le-leb, le-ltb, lt-ltb, ne_eqb}
use Rattle.std.proofs.Math.Option.{some}
use Rattle.std.proofs.lemmas.Bool.{lt-leb}
use Rattle.basics.specs.Lists.{all}
use Rattle.basics.specs.Laws.Booleans.{both_true, and_no, and_yes}
use Rattle.basics.specs.Laws.Lists.{headed}
use Rattle.alerts.specs.Text.{upper_byte, upper, digit}
use Rattle.alerts.specs.Applies.{is_code, products, name_of, decimal_value, code_number, line_name, idfm_product_to_short}
use Rattle.alerts_ids.specs.Promises.Products.{Wrote, Named}

-- ---- the five digits

five_more : (p : List ℕ) → length p ≡ 6
    → 10000 * (get_or p 1 0 - 48) + 1000 * (get_or p 2 0 - 48) + 100 * (get_or p 3 0 - 48) + 10 * (get_or p 4 0 - 48)
    + (get_or p 5 0 - 48) ≡ decimal_value 0 (drop 1 p)
five_more [] e = absurd (omega (arith, e))
five_more (a ∷ []) e = absurd (omega (arith, e))
five_more (a ∷ b ∷ []) e = absurd (omega (arith, e))
five_more (a ∷ b ∷ c ∷ []) e = absurd (omega (arith, e))
five_more (a ∷ b ∷ c ∷ d ∷ []) e = absurd (omega (arith, e))
five_more (a ∷ b ∷ c ∷ d ∷ f ∷ []) e = absurd (omega (arith, e))
five_more (a ∷ b ∷ c ∷ d ∷ f ∷ g ∷ []) e = omega arith
five_more (a ∷ b ∷ c ∷ d ∷ f ∷ g ∷ h ∷ s) e = absurd (omega (arith, e))

pub five_digits : (p : List ℕ) {a b c d e r : ℕ} → length p ≡ 6 → a ≡ get_or p 1 0 - 48 → b ≡ get_or p 2 0 - 48
    → c ≡ get_or p 3 0 - 48 → d ≡ get_or p 4 0 - 48 → e ≡ get_or p 5 0 - 48
    → r ≡ 10000 * a + 1000 * b + 100 * c + 10 * d + e → r ≡ decimal_value 0 (drop 1 p)
five_digits p l f g h i j k = k ∙ rw (f, g, h, i, j) (five_more p l)

-- ---- capitals

digit_upper : (b : ℕ) → digit (upper_byte b) ≡ digit b
digit_upper b = go (leb 97 b) refl (leb b 122) refl
  where
    go : (t : Bool) → leb 97 b ≡ t → (u : Bool) → leb b 122 ≡ u → digit (cond (t && u) (b - 32) b) ≡ digit b
    go true e true f =
        let x = leb-true 97 b e in
        rw (
          lt-leb (b - 32) 57 (omega (arith, x)),
          lt-leb b 57 (omega (arith, x)),
          and_no (leb 48 (b - 32)),
          and_no (leb 48 b),
        ) refl
    go true e false f = refl
    go false e u f = refl

digits_upper : (s : List ℕ) → all digit (upper s) ≡ all digit s
digits_upper [] = refl
digits_upper (b ∷ s) = rw (digit_upper b, digits_upper s) refl

upper_digits : (s : List ℕ) → all digit s ≡ true → upper s ≡ s
upper_digits [] e = refl
upper_digits (b ∷ s) e =
    let h = both_true (digit b) (all digit s) e in
    let k = leb-true b 57 (both_true (leb 48 b) (leb b 57) h.0).1 in
    headed (rw (lt-leb 97 b (omega (arith, k))) refl) (upper_digits s h.1)

upper_long : (s : List ℕ) → length (upper s) ≡ length s
upper_long [] = refl
upper_long (b ∷ s) = ap suc (upper_long s)

-- ---- the number of a text

pub number_long : (c : List ℕ) → (length c ≡ 6 → ⊥) → 0 ≡ code_number (upper c)
number_long [] e = refl
number_long (b ∷ s) e =
    let h : eqb (length s) 5 ≡ false = ne_eqb (length s) 5 (λ q. e (ap suc q)) in
    rw (upper_long s, h, and_no (eqb (upper_byte b) 67)) refl

module _ (b : ℕ) (s : List ℕ) (five : length s ≡ 5) where
  -- of C or c and five more bytes
  code_tests : is_code (b ∷ s) ≡ eqb (upper_byte b) 67 && all digit s
  code_tests = rw five refl

  number_tests : code_number (upper (b ∷ s))
      ≡ cond (eqb (upper_byte b) 67 && all digit s) (decimal_value 0 (upper s)) 0
  number_tests = rw (upper_long s, five, and_yes (eqb (upper_byte b) 67), digits_upper s) refl

pub number_other : (c : List ℕ) {t : Bool} → length c ≡ 6 → t ≡ is_code c → t ≡ false → 0 ≡ code_number (upper c)
number_other [] l e f = refl
number_other (b ∷ s) l e f =
    let five : length s ≡ 5 = omega (arith, l) in
    sym (number_tests b s five ∙ rw (sym (code_tests b s five) ∙ sym e ∙ f) refl)

pub number_code : (c : List ℕ) {t : Bool} {n : ℕ} → length c ≡ 6 → t ≡ is_code c → t ≡ true
    → n ≡ decimal_value 0 (drop 1 c) → n ≡ code_number (upper c)
number_code [] l e f v = absurd (omega (arith, l))
number_code (b ∷ s) l e f v =
    let five : length s ≡ 5 = omega (arith, l) in
    let both : eqb (upper_byte b) 67 && all digit s ≡ true = sym (code_tests b s five) ∙ sym e ∙ f in
    let h = both_true (eqb (upper_byte b) 67) (all digit s) both in
    v ∙ sym (number_tests b s five ∙ rw (both, upper_digits s h.1) refl)

-- ---- names

-- a line's name, written
pub short_name : {k r : ℕ} {old new : List ℕ} → k < 10 → Wrote ((48 + k) ∷ []) r old new
    → Wrote (line_name k) r old new
short_name {k} l W = record { kept = W.kept; within = W.within; is = W.is ∙ rw (lt-ltb k 10 l) refl }

pub long_name : {k r : ℕ} {old new : List ℕ} → 10 ≤ k → Wrote (49 ∷ (38 + k) ∷ []) r old new
    → Wrote (line_name k) r old new
long_name {k} l W = record { kept = W.kept; within = W.within; is = W.is ∙ rw (le-ltb k 10 l) refl }

-- ---- which it is

module _ (code : List ℕ) {n : ℕ} (e : n ≡ code_number (upper code)) where
  pub below : {r : Option ℕ} {old new : List ℕ} → n < 1371 → Named (name_of (upper code) products) r old new
      → Named (idfm_product_to_short code) r old new
  below h N = record { kept = N.kept; within = N.within; is = rw (← e, lt-leb 1371 n h) N.is }

  pub above : {r : Option ℕ} {old new : List ℕ} → 1371 ≤ n → 1384 < n → Named (name_of (upper code) products) r old new
      → Named (idfm_product_to_short code) r old new
  above h i N = record { kept = N.kept; within = N.within; is = rw (← e, le-leb 1371 n h, lt-leb n 1384 i) N.is }

  pub worked_out : {r : ℕ} {old new : List ℕ} → 1371 ≤ n → n ≤ 1384 → Wrote (line_name (n - 1370)) r old new
      → Named (idfm_product_to_short code) (Some r) old new
  worked_out h i W = record {
    kept = W.kept;
    within = W.within;
    is = rw (← e, le-leb 1371 n h, le-leb n 1384 i) (ap some (sym W.is));
  }
