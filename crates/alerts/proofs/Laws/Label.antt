-- Law. The first n characters of well-formed UTF-8 are well-formed UTF-8 of at most 4 n bytes, so that a label is at
-- most 512 bytes long.
use Rattle.std.specs.Prelude.{◌≡◌, refl, List, [], ◌∷◌, Bool, true, false, cond, ◌&&◌, ◌||◌, ℕ, zero, suc, ◌+◌, ◌*◌, ◌≤◌, leb, ltb, length}
use Rattle.std.proofs.Common.{⊎_elim, arith, leb-true, ltb-true, le-leb}
use Rattle.std.proofs.Math.Option.{Option, none, some}
use Rattle.std.proofs.lemmas.Bool.{lt-leb}
use Rattle.basics.specs.Laws.Options.{none_some}
use Rattle.formats.specs.Class.{Range, inside, utf8_rows, due, goes_on, sequences, in_class, utf8}
use Rattle.basics.specs.Lists.{all}
use Rattle.basics.specs.Laws.Booleans.{false_true, or_true, and_true}
use Rattle.alerts.specs.Label.{continues, characters, label_of}

-- a byte that goes on with a character, and one that begins one
pub on_byte : (n b : ℕ) (s : List ℕ) → continues b ≡ true → characters n (b ∷ s) ≡ b ∷ characters n s
on_byte zero b s e = rw e refl
on_byte (suc n) b s e = rw e refl

-- the rows of the UTF-8 table: the first byte is no trailing one, the others are, and there are at most three
abbrev trailing : Range → Bool
trailing r = leb 128 r.0 && leb r.1 191

abbrev apart : Range → Bool
apart r = ltb r.1 128 || ltb 191 r.0

abbrev leading : List Range → Bool
leading [] = true
leading (r ∷ rest) = apart r && (all trailing rest && leb (length rest) 3)

record Lead (b : ℕ) (rest : List Range) : Type 0 where
  begins : continues b ≡ false
  trails : all trailing rest ≡ true
  few : length rest ≤ 3

outside : (r : Range) (b : ℕ) → apart r ≡ true → inside r b ≡ true → continues b ≡ false
outside r b e h =
    let low : r.0 ≤ b = leb-true r.0 b (and_true {x = leb r.0 b} h).0 in
    let high : b ≤ r.1 = leb-true b r.1 (and_true {x = leb r.0 b} h).1 in
    ⊎_elim
    (λ k. rw (lt-leb 128 b (omega (arith, ltb-true r.1 128 k))) refl)
    (λ k. rw (le-leb 128 b (omega (arith, ltb-true 191 r.0 k)))
    (lt-leb b 191 (omega (arith, ltb-true 191 r.0 k))))
    (or_true (ltb r.1 128) (ltb 191 r.0) e)

due_leads : (l : List (List Range)) (b : ℕ) (rest : List Range) → all leading l ≡ true → due l b ≡ some rest
    → Lead b rest
due_leads [] b rest e h = none_some h
due_leads ([] ∷ l) b rest e h = due_leads l b rest e h
due_leads ((r ∷ row) ∷ l) b rest e h =
    go (inside r b) refl h (due_leads l b rest (and_true {x = leading (r ∷ row)} e).1)
  where
    go : (t : Bool) → inside r b ≡ t → cond t (some row) (due l b) ≡ some rest → (due l b ≡ some rest → Lead b rest)
        → Lead b rest
    go true g k ih =
        let lead = and_true {x = apart r} (and_true {x = leading (r ∷ row)} e).0 in
        let others = and_true {x = all trailing row} lead.1 in
        let same_row : row ≡ rest = cc in
        rw (← same_row)
        record { begins = outside r b lead.0 g; trails = others.0; few = leb-true (length row) 3 others.1 }
    go false g k ih = ih k

-- a trailing byte that is due goes on with its character
due_goes_on : (r : Range) (b : ℕ) → trailing r ≡ true → inside r b ≡ true → continues b ≡ true
due_goes_on r b e h =
    let low = and_true {x = leb 128 r.0} e in
    let here = and_true {x = leb r.0 b} h in
    rw (le-leb 128 b (omega (arith, leb-true 128 r.0 low.0, leb-true r.0 b here.0)))
    (le-leb b 191 (omega (arith, leb-true r.1 191 low.1, leb-true b r.1 here.1)))

-- what is left of a character is taken whole, and then n characters
pub record Cut (n : ℕ) (s : List ℕ) (rest : List Range) : Type 0 where
  pub whole : sequences (characters n s) rest ≡ true
  pub short : length (characters n s) ≤ 4 * n + length rest

cut_on : (n b : ℕ) (s : List ℕ) (r : Range) (rest : List Range) → inside r b ≡ true → continues b ≡ true → Cut n s rest
    → Cut n (b ∷ s) (r ∷ rest)
cut_on n b s r rest h e c =
    record { whole = rw (on_byte n b s e, h) c.whole; short = rw (on_byte n b s e) (omega (arith, c.short)) }

cut_first : (n b : ℕ) (s : List ℕ) (rest : List Range) → due utf8_rows b ≡ some rest → Lead b rest
    → ((m : ℕ) → Cut m s rest) → Cut n (b ∷ s) []
cut_first zero b s rest e l c = record { whole = rw l.begins refl; short = rw l.begins (omega arith) }
cut_first (suc n) b s rest e l c = record {
  whole = rw (l.begins, e) (c n).whole;
  short = rw l.begins (omega (arith, (c n).short, l.few));
}

pub cut : (n : ℕ) (s : List ℕ) (rest : List Range) → all trailing rest ≡ true → sequences s rest ≡ true → Cut n s rest
cut n [] [] t e = record { whole = refl; short = omega arith }
cut n [] (r ∷ rest) t e = false_true e
cut n (b ∷ s) [] t e = go (due utf8_rows b) refl e (λ m rest. cut m s rest)
  where
    go : (o : Option (List Range)) → due utf8_rows b ≡ o → goes_on o (λ rest. sequences s rest) ≡ true
        → ((m : ℕ) (rest : List Range) → all trailing rest ≡ true → sequences s rest ≡ true → Cut m s rest)
        → Cut n (b ∷ s) []
    go none d h ih = false_true h
    go (some rest) d h ih = let l = due_leads utf8_rows b rest refl d in
        cut_first n b s rest d l (λ m. ih m rest l.trails h)
cut n (b ∷ s) (r ∷ rest) t e = go (inside r b) refl e (λ f. cut n s rest (and_true {x = trailing r} t).1 f)
  where
    go : (i : Bool) → inside r b ≡ i → goes_on (cond i (some rest) none) (λ rest. sequences s rest) ≡ true
        → (sequences s rest ≡ true → Cut n s rest) → Cut n (b ∷ s) (r ∷ rest)
    go true h e c = cut_on n b s r rest h (due_goes_on r b (and_true {x = trailing r} t).0 h) (c e)
    go false h e c = false_true e

-- a label is UTF-8 where the texts are, and at most 512 bytes long where the header is
pub label_utf8 : (present : Bool) (h d : List ℕ) → in_class utf8 h ≡ true → in_class utf8 d ≡ true
    → in_class utf8 (label_of present h d) ≡ true
label_utf8 true h d eh ed = eh
label_utf8 false h d eh ed = (cut 120 d [] refl ed).whole

pub label_length : (present : Bool) (h d : List ℕ) → length h ≤ 512 → in_class utf8 d ≡ true
    → length (label_of present h d) ≤ 512
label_length true h d lh ed = lh
label_length false h d lh ed = omega (arith, (cut 120 d [] refl ed).short)
