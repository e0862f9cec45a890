-- Law. `product_code_never_decides`: where the table of product codes would say yes, the comparison of the route ids
-- has said yes.
use Rattle.std.specs.Prelude.{◌≡◌, refl, List, [], ◌∷◌, Bool, true, false, cond, not, ◌&&◌, ◌||◌, ℕ, ◌-◌, ◌≤◌, leb}
use Rattle.std.proofs.Common.{sym, ap, ◌∙◌, ⊎_elim, arith, leb-true}
use Rattle.std.proofs.Math.Option.{Option, none, some}
use Rattle.std.proofs.lemmas.Bool.{lt-leb}
use Rattle.basics.specs.Laws.Options.{none_some}
use Rattle.basics.specs.Laws.Lists.{headed}
use Rattle.basics.specs.Laws.Texts.{same_refl, same_true}
use Rattle.formats.specs.Class.{inside}
use Rattle.basics.specs.Lists.{any}
use Rattle.alerts.specs.Text.{upper_byte, upper, alphanumeric, trim, split}
use Rattle.basics.specs.Texts.{same}
use Rattle.alerts.specs.Applies.{is_code, first_code, product_code_token, segment, decided, tails_match}
use Rattle.alerts.specs.Applies.{route_refs_match, short_names_equal, name_of, idfm_product_to_short}
use Rattle.alerts.specs.Applies.{is_text, same_line, by_product}
use Rattle.alerts.proofs.Laws.LineCodes.{listed, as_listed}
use Rattle.basics.specs.Laws.Booleans.{false_true, or_comm, or_true, and_true}

-- a code is in capitals already
upper_byte_twice : (b : ℕ) → upper_byte (upper_byte b) ≡ upper_byte b
upper_byte_twice b = go (inside (97, 122) b) refl
  where
    go : (t : Bool) → inside (97, 122) b ≡ t → upper_byte (cond t (b - 32) b) ≡ cond t (b - 32) b
    go true e =
        let h : b ≤ 122 = leb-true b 122 (and_true {x = leb 97 b} e).1 in
        rw (lt-leb 97 (b - 32) (omega arith)) refl
    go false e = rw e refl

upper_upper : (s : List ℕ) → upper (upper s) ≡ upper s
upper_upper [] = refl
upper_upper (b ∷ s) = headed (upper_byte_twice b) (upper_upper s)

first_code_upper : (l : List (List ℕ)) (c : List ℕ) → first_code l ≡ some c → upper c ≡ c
first_code_upper [] c e = none_some e
first_code_upper (p ∷ l) c e = go (is_code (trim p)) e (first_code_upper l c)
  where
    go : (t : Bool) → cond t (some (upper (trim p))) (first_code l) ≡ some c → (first_code l ≡ some c → upper c ≡ c)
        → upper c ≡ c
    go true g ih = let h : upper (trim p) ≡ c = cc in rw (← h) (upper_upper (trim p))
    go false g ih = ih g

-- no name stands twice in the table, so a name has one code
abbrev distinct_names : List (List ℕ × List ℕ) → Bool
distinct_names [] = true
distinct_names (row ∷ l) = not (any (λ r. same row.1 r.1) l) && distinct_names l

name_of_there : (c n : List ℕ) (l : List (List ℕ × List ℕ)) → name_of c l ≡ some n → any (λ r. same n r.1) l ≡ true
name_of_there c n [] e = none_some e
name_of_there c n (row ∷ l) e = go (same c row.0) e (name_of_there c n l)
  where
    go : (t : Bool) → cond t (some row.1) (name_of c l) ≡ some n
        → (name_of c l ≡ some n → any (λ r. same n r.1) l ≡ true)
        → same n row.1 || any (λ r. same n r.1) l ≡ true
    go true g ih = let h : row.1 ≡ n = cc in rw (h, same_refl n) refl
    go false g ih = rw (ih g) (or_comm (same n row.1) true)

one_code : (b c n : List ℕ) (l : List (List ℕ × List ℕ)) → distinct_names l ≡ true → name_of b l ≡ some n
    → name_of c l ≡ some n → b ≡ c
one_code b c n [] d eb ec = none_some eb
one_code b c n (row ∷ l) d eb ec =
    go (same b row.0) refl (same c row.0) refl eb ec
    (one_code b c n l (and_true {x = not (any (λ r. same row.1 r.1) l)} d).1)
  where
    twice : {C : Type 0} (x : List ℕ) → row.1 ≡ n → name_of x l ≡ some n → C
    twice x h g =
        let e : not (any (λ r. same row.1 r.1) l) ≡ false = rw (h, name_of_there x n l g) refl in
        false_true (sym e ∙ (and_true d).0)

    go : (t : Bool) → same b row.0 ≡ t → (u : Bool) → same c row.0 ≡ u
        → cond t (some row.1) (name_of b l) ≡ some n → cond u (some row.1) (name_of c l) ≡ some n
        → (name_of b l ≡ some n → name_of c l ≡ some n → b ≡ c) → b ≡ c
    go true hb true hc eb ec ih = same_true b row.0 hb ∙ sym (same_true c row.0 hc)
    go true hb false hc eb ec ih = let h : row.1 ≡ n = cc in twice c h ec
    go false hb true hc eb ec ih = let h : row.1 ≡ n = cc in twice b h eb
    go false hb false hc eb ec ih = ih eb ec

named_once : (b c n : List ℕ) → upper b ≡ b → upper c ≡ c → idfm_product_to_short b ≡ some n
    → idfm_product_to_short c ≡ some n → b ≡ c
named_once b c n hb hc eb ec =
    sym hb ∙ one_code (upper b) (upper c) n listed refl (sym (as_listed b) ∙ eb) (sym (as_listed c) ∙ ec) ∙ hc

-- two codes of one line are one code
one_line : (short b : List ℕ) (c : List ℕ) → upper b ≡ b → upper c ≡ c → by_product (some b) short (some c) ≡ true
    → b ≡ c
one_line short b c hb hc e = go (idfm_product_to_short c) refl e
  where
    go : (o : Option (List ℕ)) → idfm_product_to_short c ≡ o → same_line (some b) short c o ≡ true → b ≡ c
    go none eo e = false_true e
    go (some n) eo e =
        ⊎_elim (same_true b c) (λ h. found (idfm_product_to_short b) refl h)
        (or_true (same b c) (is_text (idfm_product_to_short b) n) (and_true {x = short_names_equal short n} e).1)
      where
        found : (o : Option (List ℕ)) → idfm_product_to_short b ≡ o → is_text o n ≡ true → b ≡ c
        found none en h = false_true h
        found (some m) en h = named_once b c n hb hc (en ∙ ap some (same_true m n h)) eo

-- ids with one code match
one_token : (q r c : List ℕ) → product_code_token q ≡ some c → product_code_token r ≡ some c
    → route_refs_match q r ≡ true
one_token [] r c eq er = none_some eq
one_token (a ∷ q) [] c eq er = none_some er
one_token (a ∷ q) (b ∷ r) c eq er = go (same (a ∷ q) (b ∷ r))
  where
    go : (t : Bool)
        → cond t true
        (decided (product_code_token (a ∷ q)) (product_code_token (b ∷ r))
        (tails_match (segment (a ∷ q)) (segment (b ∷ r)))) ≡ true
    go true = refl
    go false = rw (eq, er) (same_refl c)

pub product_code_never_decides : (q r short : List ℕ)
    → by_product (product_code_token q) short (product_code_token r) ≡ true → route_refs_match q r ≡ true
product_code_never_decides q r short e = go (product_code_token q) refl (product_code_token r) refl e
  where
    pieces : List ℕ → List (List ℕ)
    pieces x = split (λ b. not (alphanumeric b)) x

    unmapped : (o : Option (List ℕ)) (c : List ℕ) → idfm_product_to_short c ≡ o → same_line none short c o ≡ true
        → route_refs_match q r ≡ true
    unmapped none c eo h = false_true h
    unmapped (some n) c eo h = false_true (and_true {x = short_names_equal short n} h).1

    go : (o : Option (List ℕ)) → product_code_token q ≡ o → (u : Option (List ℕ)) → product_code_token r ≡ u
        → by_product o short u ≡ true → route_refs_match q r ≡ true
    go none eq none er h = false_true h
    go none eq (some c) er h = unmapped (idfm_product_to_short c) c refl h
    go (some b) eq none er h = false_true h
    go (some b) eq (some c) er h =
        let same_code : b ≡ c =
        one_line short b c (first_code_upper (pieces q) b eq) (first_code_upper (pieces r) c er) h in
        one_token q r c (eq ∙ ap some same_code) er
