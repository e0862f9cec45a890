-- Law. PRODUCT CODES AS THE RUST LISTS THEM (02, C-13): for every text the answer is that of the table with a row for
-- each of the 23 codes.
use Rattle.std.specs.Prelude.{◌≡◌, refl, List, [], ◌∷◌, Bool, true, false, cond, not, ◌&&◌, ℕ, suc, ◌+◌, ◌-◌, ◌*◌, ◌≤◌, ◌<◌, leb, eqb, length}
use Rattle.std.proofs.Common.{sym, ap, ◌∙◌, arith, eqb-true, leb-true, eq-eqb}
use Rattle.std.proofs.Math.Option.{none, some}
use Rattle.std.proofs.lemmas.Bool.{eqb-false}
use Rattle.basics.specs.Lists.{all, filter}
use Rattle.basics.specs.Texts.{same}
use Rattle.basics.specs.Laws.Booleans.{false_true, both_true, both_ways}
use Rattle.basics.specs.Laws.Lists.{headed}
use Rattle.basics.specs.Laws.Texts.{same_refl, same_true}
use Rattle.alerts.specs.Text.{text, upper, digit}
use Rattle.alerts.specs.Applies.{decimal_value, code_number, products, name_of, line_name, idfm_product_to_short}

-- `idfm_product_to_short`'s table
abbrev pub listed : List (List ℕ × List ℕ)
listed =
    (text "C01742", text "A") ∷ (text "C01743", text "B") ∷ (text "C01727", text "C") ∷ (text "C01728", text "D")
    ∷ (text "C01729", text "E") ∷ (text "C01371", text "1") ∷ (text "C01372", text "2") ∷ (text "C01373", text "3")
    ∷ (text "C01374", text "4") ∷ (text "C01375", text "5") ∷ (text "C01376", text "6") ∷ (text "C01377", text "7")
    ∷ (text "C01378", text "8") ∷ (text "C01379", text "9") ∷ (text "C01380", text "10") ∷ (text "C01381", text "11")
    ∷ (text "C01382", text "12") ∷ (text "C01383", text "13") ∷ (text "C01384", text "14") ∷ (text "C01389", text "T1")
    ∷ (text "C01390", text "T2") ∷ (text "C01391", text "T3a") ∷ (text "C01679", text "T3b") ∷ []

-- ---- a code is known by its number

record Digit (b : ℕ) : Type 0 where
  from : 48 ≤ b
  to : b ≤ 57

digit_of : (b : ℕ) → digit b ≡ true → Digit b
digit_of b e =
    let h = both_true (leb 48 b) (leb b 57) e in
    record { from = leb-true 48 b h.0; to = leb-true b 57 h.1 }

same_value : (n m : ℕ) (s t : List ℕ) → length s ≡ length t → all digit s ≡ true → all digit t ≡ true
    → decimal_value n s ≡ decimal_value m t → (n ≡ m) × (s ≡ t)
same_value n m [] [] l d e v = (v, refl)
same_value n m [] (c ∷ t) l d e v = absurd (omega (arith, l))
same_value n m (b ∷ s) [] l d e v = absurd (omega (arith, l))
same_value n m (b ∷ s) (c ∷ t) l d e v =
    let x = both_true (digit b) (all digit s) d in
    let y = both_true (digit c) (all digit t) e in
    let r = same_value (10 * n + (b - 48)) (10 * m + (c - 48)) s t (omega (arith, l)) x.1 y.1 v in
    let B = digit_of b x.0 in
    let C = digit_of c y.0 in
    let h : b ≡ c = omega (arith, r.0, B.from, B.to, C.from, C.to) in
    (omega (arith, r.0, B.from, B.to, C.from, C.to), headed h r.1)

-- what a text with a number is
record Code (n : ℕ) (c : List ℕ) : Type 0 where
  rest : List ℕ
  is : c ≡ 67 ∷ rest
  long : length rest ≡ 5
  digits : all digit rest ≡ true
  value : decimal_value 0 rest ≡ n

code_of : (n : ℕ) (c : List ℕ) → code_number c ≡ n → 0 < n → Code n c
code_of n [] e h = absurd (omega (arith, e))
code_of n (b ∷ s) e h = go (eqb b 67 && eqb (length s) 5 && all digit s) refl e
  where
    go : (t : Bool) → eqb b 67 && eqb (length s) 5 && all digit s ≡ t → cond t (decimal_value 0 s) 0 ≡ n
        → Code n (b ∷ s)
    go false q e = absurd (omega (arith, e))
    go true q e =
        let x = both_true (eqb b 67 && eqb (length s) 5) (all digit s) q in
        let y = both_true (eqb b 67) (eqb (length s) 5) x.0 in
        record {
          rest = s;
          is = headed (eqb-true b 67 y.0) refl;
          long = eqb-true (length s) 5 y.1;
          digits = x.1;
          value = e;
        }

one_code : (n : ℕ) (c d : List ℕ) → Code n c → Code n d → c ≡ d
one_code n c d C D =
    let r = same_value 0 0 C.rest D.rest (C.long ∙ sym D.long) C.digits D.digits
    (C.value ∙ sym D.value) in
    C.is ∙ ap (λ s. 67 ∷ s) r.1 ∙ sym D.is

by_number : (c d : List ℕ) → 0 < code_number d → same c d ≡ eqb (code_number c) (code_number d)
by_number c d h =
    both_ways (same c d) (eqb (code_number c) (code_number d))
    (λ e. eq-eqb (code_number c) (code_number d) (ap code_number (same_true c d e)))
    (λ e. let q : c ≡ d =
    one_code (code_number d) c d (code_of (code_number d) c (eqb-true (code_number c) (code_number d) e) h)
    (code_of (code_number d) d refl h) in
    rw q (same_refl d))

-- ---- only the rows on a code's side of a test count

abbrev in_run : List ℕ → Bool
in_run c = leb 1371 (code_number c) && leb (code_number c) 1384

abbrev alike : Bool → Bool → Bool
alike true b = b
alike false b = not b

alike_same : (t : Bool) → alike t t ≡ true
alike_same true = refl
alike_same false = refl

module _ (p : List ℕ → Bool) (c : List ℕ) where
  abbrev side : List (List ℕ × List ℕ) → List (List ℕ × List ℕ)
  side l = filter (λ row. alike (p c) (p row.0)) l

  name_side : (l : List (List ℕ × List ℕ)) → name_of c l ≡ name_of c (side l)
  name_side [] = refl
  name_side (row ∷ l) = go (same c row.0) refl (alike (p c) (p row.0)) refl (name_side l)
    where
      go : (t : Bool) → same c row.0 ≡ t → (u : Bool) → alike (p c) (p row.0) ≡ u
          → name_of c l ≡ name_of c (side l)
          → cond t (some row.1) (name_of c l) ≡ name_of c (cond u (row ∷ side l) (side l))
      go true e true f ih = rw e refl
      go true e false f ih =
          let q : c ≡ row.0 = same_true c row.0 e in
          let z : alike (p c) (p row.0) ≡ true = ap (λ d. alike (p c) (p d)) (sym q) ∙ alike_same (p c) in
          false_true (sym f ∙ z)
      go false e true f ih = rw e ih
      go false e false f ih = ih

-- ---- the lines 1 to 14 are rows one after the other

abbrev is_run : List (List ℕ × List ℕ) → ℕ → Bool
is_run [] m = true
is_run (row ∷ l) m = eqb (code_number row.0) m && (same row.1 (line_name (m - 1370)) && is_run l (suc m))

run_name : (c : List ℕ) (l : List (List ℕ × List ℕ)) (m : ℕ) → 0 < m → is_run l m ≡ true → m ≤ code_number c
    → code_number c < m + length l → name_of c l ≡ some (line_name (code_number c - 1370))
run_name c [] m z r h l = absurd (omega arith)
run_name c (row ∷ k) m z r h l =
    let x = both_true (eqb (code_number row.0) m) (same row.1 (line_name (m - 1370)) && is_run k (suc m)) r in
    let y = both_true (same row.1 (line_name (m - 1370))) (is_run k (suc m)) x.1 in
    let i : code_number row.0 ≡ m = eqb-true (code_number row.0) m x.0 in
    go (by_number c row.0 (omega (arith, i, z)) ∙ ap (eqb n) i) (same_true row.1 (line_name (m - 1370)) y.0)
    (same c row.0) refl (λ g. run_name c k (suc m) (omega arith) y.1 g (omega (arith, l)))
  where
    n : ℕ
    n = code_number c

    go : same c row.0 ≡ eqb n m → row.1 ≡ line_name (m - 1370) → (t : Bool) → same c row.0 ≡ t
        → (suc m ≤ n → name_of c k ≡ some (line_name (n - 1370)))
        → cond t (some row.1) (name_of c k) ≡ some (line_name (n - 1370))
    go here name true e ih =
        let q : n ≡ m = eqb-true n m (sym here ∙ e) in
        ap some (name ∙ ap (λ j. line_name (j - 1370)) (sym q))
    go here name false e ih = ih (omega (arith, h, eqb-false n m (sym here ∙ e)))

worked_out : (c : List ℕ)
    → name_of c listed ≡ cond (in_run c) (some (line_name (code_number c - 1370))) (name_of c products)
worked_out c = name_side in_run c listed ∙ go (in_run c) refl
  where
    go : (t : Bool) → in_run c ≡ t
        → name_of c (filter (λ row. alike t (in_run row.0)) listed)
        ≡ cond t (some (line_name (code_number c - 1370))) (name_of c products)
    go true e =
        let h = both_true (leb 1371 (code_number c)) (leb (code_number c) 1384) e in
        let a = leb-true 1371 (code_number c) h.0 in
        let b = leb-true (code_number c) 1384 h.1 in
        run_name c (filter (λ row. in_run row.0) listed) 1371 (omega arith)
        refl a (omega (arith, b))
    go false e = refl

-- FOR EVERY TEXT the answer is the listed one
pub as_listed : (code : List ℕ) → idfm_product_to_short code ≡ name_of (upper code) listed
as_listed code = sym (worked_out (upper code))

-- worked rows
pub worked : (idfm_product_to_short (text "C01371") ≡ some (text "1"))
    × (idfm_product_to_short (text "c01384") ≡ some (text "14"))
    × (idfm_product_to_short (text "C01370") ≡ none)
    × (idfm_product_to_short (text "C01385") ≡ none)
    × (idfm_product_to_short (text "C1371") ≡ none)
    × (idfm_product_to_short (text "C001371") ≡ none)
    × (idfm_product_to_short (text "C013710") ≡ none)
    × (idfm_product_to_short (text "D01371") ≡ none)
    × (idfm_product_to_short (text "C0137 ") ≡ none)
    × (idfm_product_to_short (text "C0137:") ≡ none)
    × (idfm_product_to_short (text " C01371") ≡ none)
    × (idfm_product_to_short (text "C01379") ≡ some (text "9"))
    × (idfm_product_to_short (text "C01380") ≡ some (text "10"))
    × (idfm_product_to_short (text "C01391") ≡ some (text "T3a"))
    × (idfm_product_to_short (text "C00000") ≡ none)
    × (idfm_product_to_short [] ≡ none)
worked = (refl, refl, refl, refl, refl, refl, refl, refl, refl, refl, refl, refl, refl, refl, refl, refl)
