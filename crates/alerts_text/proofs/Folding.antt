-- A text folded place by place, and the buffer that it is written to.
use mathlib.Core.Path.{◌≡◌, refl, sym, ap, ◌∙◌}
use mathlib.Core.List.{List, [], ◌∷◌, ◌++◌, append_assoc, append-nil}
use mathlib.Core.Option.{Option, none, some}
use mathlib.Core.Bool.{Bool, true, false, cond, not, ◌&&◌}
use Prim.Native.Nat.{ℕ, zero, suc, ◌+◌, ◌-◌, ◌≤◌, ◌<◌}
use native.Mathlib.Numerals.{add-one}
use native.Mathlib.Omega.{arith}
use lib.Dec.{leb, eqb}
use lib.ListN.{length, get_or, take, drop, set, replicate, length-set, length-append, length-map, drop_of_length-le}
use lib.ListN.{take-append-drop}
use lib.Seq.{drop-cons, take-suc-set, take-append_seam, take_at, drop_at, length-take-le}
use borrow.Author.Tests.{le-leb, lt-leb, leb-true, eq-eqb, ne_eqb, eqb-true, eqb-false, not-true, not-false}
use Rattle.basics.specs.Laws.Options.{none_some}
use Rattle.basics.specs.Lists.{all, member}
use Rattle.alerts.specs.Text.{text, upper_byte, upper}
use Rattle.alerts.specs.Applies.{accents, plain_letter, unaccented, folded, fold_alert_blob}
use Rattle.alerts.specs.Promises.Reduced.{road}
use Rattle.alerts_lines.specs.Promises.Lines.{named_of, IsLine}
use Rattle.alerts_lines.specs.Promises.Marks.{Lines, Marked}
use Rattle.alerts_lines.specs.Laws.Choosing.{lines_fresh}
use Rattle.alerts_text.specs.Promises.Blob.{letter_of, searched, Stepped, Written, Answered, fits_of, road_of}
use Rattle.alerts_text.specs.Promises.Marked.{ok_for, blob_of, Roomy, Settles, MarkedOk, NamedFits}
use Rattle.alerts_text.specs.Promises.Marked.{FirstFits, SettlesName}
use Rattle.alerts_text.specs.declared.lines.Settled.{Settled}
use Rattle.basics.specs.Laws.Booleans.{and_true}

-- capitals
pub upper_low : (b : ℕ) → b < 97 → b ≡ upper_byte b
upper_low b h = sym (rw (lt-leb 97 b h) refl)

pub upper_high : (b : ℕ) → 97 ≤ b → 122 < b → b ≡ upper_byte b
upper_high b h g = sym (rw (le-leb 97 b h, lt-leb b 122 g) refl)

pub upper_letter : (b : ℕ) → 97 ≤ b → b ≤ 122 → b - 32 ≡ upper_byte b
upper_letter b h g = sym (rw (le-leb 97 b h, le-leb b 122 g) refl)

-- a test of every number below n, computed
below : ℕ → (ℕ → Bool) → Bool
below zero p = true
below (suc n) p = p n && below n p

at_below : (n : ℕ) (p : ℕ → Bool) (k : ℕ) → below n p ≡ true → k < n → p k ≡ true
unfolding below
at_below zero p k e h = absurd (omega arith)
at_below (suc n) p k e h = go (eqb k n) refl (at_below n p k (and_true {x = p n} e).1)
  where
    go : (t : Bool) → eqb k n ≡ t → (k < n → p k ≡ true) → p k ≡ true
    go true x ih = rw (eqb-true k n x) (and_true {x = p n} e).0
    go false x ih = ih (omega (arith, eqb-false k n x))

-- the table of plain capitals, for every byte
abbrev pub capitals : List ℕ
capitals =
    65 ∷ 65 ∷ 65 ∷ 0 ∷ 65 ∷ 0 ∷ 0 ∷ 67 ∷ 69 ∷ 69 ∷ 69 ∷ 69 ∷ 0 ∷ 73 ∷ 73 ∷ 73 ∷ 0 ∷ 0 ∷ 0 ∷ 79 ∷ 79 ∷ 0 ∷ 79 ∷ 0 ∷ 0
    ∷ 85 ∷ 85 ∷ 85 ∷ 85 ∷ 0 ∷ 0 ∷ 0
    ∷ 65 ∷ 65 ∷ 65 ∷ 0 ∷ 65 ∷ 0 ∷ 0 ∷ 67 ∷ 69 ∷ 69 ∷ 69 ∷ 69 ∷ 0 ∷ 73 ∷ 73 ∷ 73 ∷ 0 ∷ 0 ∷ 0 ∷ 79 ∷ 79 ∷ 0 ∷ 79 ∷ 0 ∷ 0
    ∷ 85 ∷ 85 ∷ 85 ∷ 85 ∷ 0 ∷ 0 ∷ 0 ∷ []

capital : ℕ → ℕ
capital b = cond (leb 128 b && leb b 191) (get_or capitals (b - 128) 0) 0

right : ℕ → Bool
unfolding capital
right b = eqb (capital b) (letter_of (plain_letter (b + 64) accents))

capital_is : (b : ℕ) → b < 256 → capital b ≡ letter_of (plain_letter (b + 64) accents)
unfolding capital right below
capital_is b h = eqb-true (capital b) (letter_of (plain_letter (b + 64) accents)) (at_below 256 right b refl h)

pub plain_other : (a b : ℕ) → (a ≡ 0xc3 → ⊥) → 0 ≡ letter_of (unaccented a b)
plain_other a b h = sym (rw (ne_eqb a 0xc3 h) refl)

pub plain_low : (a b : ℕ) → a ≡ 0xc3 → b < 256 → b < 128 → 0 ≡ letter_of (unaccented a b)
unfolding capital
plain_low a b h g l = sym (rw (eq-eqb a 0xc3 h) (sym (capital_is b g) ∙ rw (lt-leb 128 b l) refl))

pub plain_high : (a b : ℕ) → a ≡ 0xc3 → b < 256 → 128 ≤ b → 191 < b → 0 ≡ letter_of (unaccented a b)
unfolding capital
plain_high a b h g l m = sym (rw (eq-eqb a 0xc3 h) (sym (capital_is b g) ∙ rw (le-leb 128 b l, lt-leb b 191 m) refl))

pub plain_table : (a b : ℕ) → a ≡ 0xc3 → b < 256 → 128 ≤ b → b ≤ 191
    → get_or capitals (b - 128) 0 ≡ letter_of (unaccented a b)
unfolding capital
plain_table a b h g l m = sym (rw (eq-eqb a 0xc3 h) (sym (capital_is b g) ∙ rw (le-leb 128 b l, le-leb b 191 m) refl))

-- no letter is 0, so that 0 says none
plain_some : (c l : ℕ) (rows : List (ℕ × List ℕ)) → all (λ r. leb 1 r.0) rows ≡ true → plain_letter c rows ≡ some l
    → 1 ≤ l
plain_some c l [] e h = none_some h
plain_some c l (row ∷ rows) e h = go (member c row.1) h (plain_some c l rows (and_true {x = leb 1 row.0} e).1)
  where
    go : (t : Bool) → cond t (some row.0) (plain_letter c rows) ≡ some l → (plain_letter c rows ≡ some l → 1 ≤ l)
        → 1 ≤ l
    go true x ih = let same_letter : row.0 ≡ l = cc in
        omega (arith, leb-true 1 row.0 (and_true {x = leb 1 row.0} e).0)
    go false x ih = ih x

letter_none : (a b : ℕ) → letter_of (unaccented a b) ≡ 0 → unaccented a b ≡ none
letter_none a b e = go (eqb a 0xc3) e
  where
    row : (o : Option ℕ) → plain_letter (b + 64) accents ≡ o → letter_of o ≡ 0 → o ≡ none
    row none x h = refl
    row (some l) x h = absurd (omega (arith, h, plain_some (b + 64) l accents refl x))

    go : (t : Bool) → letter_of (cond t (plain_letter (b + 64) accents) none) ≡ 0
        → cond t (plain_letter (b + 64) accents) none ≡ none
    go true h = row (plain_letter (b + 64) accents) refl h
    go false h = refl

letter_some : (a b l : ℕ) → l ≡ letter_of (unaccented a b) → (l ≡ 0 → ⊥) → unaccented a b ≡ some l
letter_some a b l e h = go (unaccented a b) e
  where
    go : (o : Option ℕ) → l ≡ letter_of o → o ≡ some l
    go none x = absurd (h x)
    go (some k) x = ap some (sym x)

-- a place gives one byte, or a letter of two
module _ (s : List ℕ) (i : ℕ) (h : i < length s) (b next : ℕ) where
  pub read_capital : (fold : Bool) → not fold ≡ true → (b ≡ upper_byte (get_or s i 0)) × (next ≡ i + 1)
      → Stepped s i fold b next
  read_capital fold f g = rw (not-true fold f) record {
    past = omega (arith, g.1);
    within = omega (arith, g.1);
    made = rw (g.0, g.1, add-one i, drop-cons s i 0) refl;
  }

  pub read_last : (fold : Bool) → not fold ≡ false → length s ≤ i + 1 → (b ≡ upper_byte (get_or s i 0)) × (next ≡ i + 1)
      → Stepped s i fold b next
  read_last fold f l g = rw (not-false fold f) record {
    past = omega (arith, g.1);
    within = omega (arith, g.1);
    made = rw (g.0, g.1, drop-cons s i 0, add-one i, drop_of_length-le s (rw (add-one i) at l)) refl;
  }

  two : i + 1 < length s → drop i s ≡ get_or s i 0 ∷ get_or s (i + 1) 0 ∷ drop (i + 1 + 1) s
  two l = drop-cons s i 0 h ∙ rw (add-one (i + 1), ← add-one i) (ap (λ t. get_or s i 0 ∷ t) (drop-cons s (i + 1) 0 l))

  pub read_single : (fold : Bool) (l : ℕ) → not fold ≡ false → i + 1 < length s
      → l ≡ letter_of (unaccented (get_or s i 0) (get_or s (i + 1) 0)) → l ≡ 0
      → (b ≡ upper_byte (get_or s i 0)) × (next ≡ i + 1) → Stepped s i fold b next
  read_single fold l f m e z g = rw (not-false fold f) record {
    past = omega (arith, g.1);
    within = omega (arith, g.1);
    made = ap fold_alert_blob (two m)
        ∙ ap (λ o. folded o (get_or s i 0) (fold_alert_blob (drop (i + 1 + 1) s))
        (fold_alert_blob (get_or s (i + 1) 0 ∷ drop (i + 1 + 1) s)))
        (letter_none (get_or s i 0) (get_or s (i + 1) 0) (sym e ∙ z))
        ∙ rw (g.0, g.1, drop-cons s (i + 1) 0, add-one (i + 1)) refl;
  }

pub read_letter : (s : List ℕ) (i l : ℕ) (fold : Bool) → not fold ≡ false → i + 1 < length s
    → l ≡ letter_of (unaccented (get_or s i 0) (get_or s (i + 1) 0)) → (l ≡ 0 → ⊥) → Stepped s i fold l (i + 1 + 1)
read_letter s i l fold f m e z =
    let h : i < length s = omega arith in
    rw (not-false fold f) record {
      past = omega arith;
      within = omega arith;
      made = ap fold_alert_blob (two s i h 0 0 m)
          ∙ ap (λ o. folded o (get_or s i 0) (fold_alert_blob (drop (i + 1 + 1) s))
          (fold_alert_blob (get_or s (i + 1) 0 ∷ drop (i + 1 + 1) s)))
          (letter_some (get_or s i 0) (get_or s (i + 1) 0) l e z);
    }

-- the buffer up to k is what was there, and what stands before i as it is searched
pub record Writing (old out : List ℕ) (at : ℕ) (s : List ℕ) (fold : Bool) (i k : ℕ) : Type 0 where
  pub kept : length out ≡ length old
  pub within : i ≤ length s
  pub room : k ≤ at + i
  pub made : take at old ++ searched fold s ≡ take k out ++ searched fold (drop i s)

pub writing_start : (old : List ℕ) (at : ℕ) (s : List ℕ) (fold : Bool) → Writing old old at s fold 0 at
writing_start old at s fold = record { kept = refl; within = omega arith; room = omega arith; made = refl }

pub writing_more : (old out : List ℕ) (at : ℕ) (s : List ℕ) (fold : Bool) (i k b next : ℕ)
    → Writing old out at s fold i k
    → at + length s ≤ length old → i < length s → Stepped s i fold b next
    → Writing old (set out k b) at s fold next (k + 1)
writing_more old out at s fold i k b next w r h e = record {
  kept = length-set out k b ∙ w.kept;
  within = e.within;
  room = omega (arith, w.room, e.past);
  made = w.made ∙ ap (λ l. take k out ++ l) e.made
      ∙ sym (append_assoc (take k out) (b ∷ []) (searched fold (drop next s)))
      ∙ ap (λ l. l ++ searched fold (drop next s)) (sym one_more);
}
  where
    one_more : take (k + 1) (set out k b) ≡ take k out ++ (b ∷ [])
    one_more = rw (add-one k) (take-suc-set out k b (omega (arith, w.room, w.kept)))

pub written : (old out : List ℕ) (at : ℕ) (s : List ℕ) (fold : Bool) (i k : ℕ) → Writing old out at s fold i k
    → length s ≤ i → Written old out at s fold k
written old out at s fold i k w h = record {
  kept = w.kept;
  within = omega (arith, w.room, w.within);
  made = sym
      (w.made ∙ rw (drop_of_length-le s h) (ap (λ l. take k out ++ l) (nothing fold) ∙ append-nil (take k out)));
}
  where
    nothing : (fold : Bool) → searched fold [] ≡ []
    nothing true = refl
    nothing false = refl

-- the space between header and description is part of no letter
fold_joined : (h d : List ℕ) → fold_alert_blob (h ++ (32 ∷ d)) ≡ fold_alert_blob h ++ (32 ∷ fold_alert_blob d)
fold_joined [] [] = refl
fold_joined [] (x ∷ d) = refl
fold_joined (a ∷ []) d = ap (λ o. folded o a (fold_alert_blob d) (fold_alert_blob (32 ∷ d))) (no_letter (eqb a 0xc3))
    ∙ ap (λ l. upper_byte a ∷ l) (fold_joined [] d)
  where
    no_letter : (t : Bool) → cond t (plain_letter (32 + 64) accents) none ≡ none
    no_letter true = refl
    no_letter false = refl
fold_joined (a ∷ b ∷ h) d = go (unaccented a b) (fold_joined h d) (fold_joined (b ∷ h) d)
  where
    go : (o : Option ℕ) → fold_alert_blob (h ++ (32 ∷ d)) ≡ fold_alert_blob h ++ (32 ∷ fold_alert_blob d)
        → fold_alert_blob ((b ∷ h) ++ (32 ∷ d)) ≡ fold_alert_blob (b ∷ h) ++ (32 ∷ fold_alert_blob d)
        → folded o a (fold_alert_blob (h ++ (32 ∷ d))) (fold_alert_blob ((b ∷ h) ++ (32 ∷ d)))
        ≡ folded o a (fold_alert_blob h) (fold_alert_blob (b ∷ h)) ++ (32 ∷ fold_alert_blob d)
    go none past next = ap (λ l. upper_byte a ∷ l) next
    go (some l) past next = ap (λ t. l ∷ t) past

-- a text behind a space, and two texts with a space between
searched_joined : (f : Bool) (h d : List ℕ) → searched f (h ++ (32 ∷ d)) ≡ searched f h ++ (32 ∷ searched f d)
searched_joined true h d = fold_joined h d
searched_joined false h d = upper_joined h
  where
    upper_joined : (h : List ℕ) → upper (h ++ (32 ∷ d)) ≡ upper h ++ (32 ∷ upper d)
    upper_joined [] = refl
    upper_joined (a ∷ h) = ap (λ l. upper_byte a ∷ l) (upper_joined h)

none_searched : (f : Bool) → searched f [] ≡ []
none_searched true = refl
none_searched false = refl

searched_space : (f : Bool) (d : List ℕ) → searched f (32 ∷ d) ≡ 32 ∷ searched f d
searched_space f d = searched_joined f [] d ∙ ap (λ l. l ++ (32 ∷ searched f d)) (none_searched f)

pub next_written : (old new s : List ℕ) (f : Bool) (at r : ℕ) → at + length s < length old
    → Written (set old at 32) new (at + 1) s f r → Written old new at (32 ∷ s) f r
next_written old new s f at r room w = record {
  kept = w.kept ∙ length-set old at 32;
  within = omega (arith, w.within);
  made = w.made ∙ ap (λ l. l ++ searched f s) spaced ∙ append_assoc (take at old) (32 ∷ []) (searched f s)
      ∙ ap (λ l. take at old ++ l) (sym (searched_space f s));
}
  where
    spaced : take (at + 1) (set old at 32) ≡ take at old ++ (32 ∷ [])
    spaced = rw (add-one at) (take-suc-set old at 32 (omega arith))

pub both_written : (old one two s t : List ℕ) (f : Bool) (at a r : ℕ) → Written old one at s f a
    → Written one two a (32 ∷ t) f r → Written old two at (s ++ (32 ∷ t)) f r
both_written old one two s t f at a r w v = record {
  kept = v.kept ∙ w.kept;
  within = omega (arith, w.within, v.within, length-append s (32 ∷ t));
  made = v.made ∙ ap (λ l. l ++ searched f (32 ∷ t)) w.made
      ∙ append_assoc (take at old) (searched f s) (searched f (32 ∷ t))
      ∙ ap (λ l. take at old ++ l) (ap (λ l. searched f s ++ l) (searched_space f t) ∙ sym (searched_joined f s t));
}

pub fits_empty : (old h d short : List ℕ) → length short ≡ 0 → Answered old old true (fits_of h d short)
fits_empty old h d [] e = record { kept = refl; is = refl }
fits_empty old h d (b ∷ short) e = absurd (omega (arith, e))

-- the short name stands behind the folded texts
module _ {old one h d short : List ℕ} {n : ℕ} (room : Roomy h d short old)
    (b : Written old one 0 (h ++ (32 ∷ d)) true n) where
  pub short_room : n + length short ≤ length one
  short_room = omega (arith, room.fits, b.within, b.kept, length-append h (32 ∷ d))

  pub marks_room : n ≤ length one
  marks_room = omega (arith, short_room)

module _ {old one two h d short : List ℕ} {n e : ℕ} (room : Roomy h d short old)
    (b : Written old one 0 (h ++ (32 ∷ d)) true n) (w : Written one two n short false e) where
  size : length (h ++ (32 ∷ d)) ≡ length h + 1 + length d
  size = omega (arith, length-append h (32 ∷ d))

  front : length (take n one) ≡ n
  front = length-take-le n one (omega (arith, room.fits, b.within, b.kept, size))

  name_ends : e ≡ n + length short
  name_ends =
      omega (
        arith,
        ap length w.made,
        length-append (take n one) (upper short),
        front,
        length-take-le e two (omega (arith, room.fits, w.within, w.kept, b.within, b.kept, size)),
        length-map short upper_byte,
      )

  pub name_start : n ≤ e
  name_start = omega (arith, name_ends)

  pub name_room : e ≤ length two
  name_room = omega (arith, room.fits, w.within, w.kept, b.within, b.kept, size)

  whole : two ≡ take n one ++ (upper short ++ drop e two)
  whole = sym (take-append-drop e two) ∙ ap (λ l. l ++ drop e two) w.made
      ∙ append_assoc (take n one) (upper short) (drop e two)

  name_stands : take (e - n) (drop n two) ≡ upper short
  name_stands =
      let long : e - n ≡ length (upper short) = omega (arith, name_ends, length-map short upper_byte) in
      let rest : drop n two ≡ upper short ++ drop e two =
      ap (drop n) whole ∙ drop_at (take n one) (upper short ++ drop e two) n front in
      rw (rest, long) (take-append_seam (upper short) (drop e two))

  blob_stands : take n two ≡ fold_alert_blob (h ++ text " " ++ d)
  blob_stands =
      ap (take n) whole ∙ take_at (take n one) (upper short ++ drop e two) n front ∙ b.made
      ∙ ap fold_alert_blob (sym (append_assoc h (32 ∷ []) d))

  pub named_fits : {named : List ℕ} {t : Bool} → MarkedOk (take n two) named (take (e - n) (drop n two)) t
      → NamedFits named h d short t old two
  named_fits M = record {
    kept = w.kept ∙ b.kept;
    is = λ N. (rw (name_stands, blob_stands) at M).is N;
  }

  front_kept : take n two ≡ take n one
  front_kept = ap (take n) whole ∙ take_at (take n one) (upper short ++ drop e two) n front

  pub first_fits : {before named : List ℕ} {t : Bool} → length named ≡ length before
      → Marked (named_of (take n one)) before named
      → MarkedOk (take n two) named (take (e - n) (drop n two)) t → FirstFits h d short t old two before named
  first_fits {before} {named} k M O =
      let F = named_fits O in
      let blob : take n one ≡ blob_of h d = sym front_kept ∙ blob_stands in
      let lines : before ≡ replicate 32 0 → Lines (named_of (blob_of h d)) named =
      λ z. lines_fresh (named_of (blob_of h d)) named (rw (blob, z) at M) in
      record { kept = F.kept; marks = k; is = λ z. F.is (lines z); lines = lines }

pub fits_first : (old new h d short after : List ℕ) (t : Bool) → (length short ≡ 0 → ⊥)
    → FirstFits h d short t old new (replicate 32 0) after → Answered old new t (fits_of h d short)
fits_first old new h d short after t z F = record { kept = F.kept; is = F.is refl ∙ go short z }
  where
    go : (s : List ℕ) → (length s ≡ 0 → ⊥) → ok_for (blob_of h d) (upper s) ≡ fits_of h d s
    go [] z = absurd (z refl)
    go (b ∷ s) z = refl

-- a short name in capitals at the front
pub settle_room : (old one short : List ℕ) (e : ℕ) → length short ≤ length old → Written old one 0 short false e
    → e ≤ length one
settle_room old one short e room w = omega (arith, w.within, w.kept)

pub settles_name : (old one short named : List ℕ) (e own : ℕ) (r : Settled) → Written old one 0 short false e
    → IsLine (take e one) own → Settles named own r → SettlesName named short r old one
settles_name old one short named e own r w O S = record {
  kept = w.kept;
  is = λ s N. S.is s N (rw w.made at O);
}

-- the three texts of the road test
module _ (old one h d c : List ℕ) (a : ℕ) (room : length h + length d + length c + 1 < length old)
    (b : Written old one 0 (h ++ (32 ∷ d)) false a) where
  pub cause_room : a + length c < length one
  cause_room = omega (arith, b.within, b.kept, length-append h (32 ∷ d))

  module _ (two : List ℕ) (n : ℕ) (w : Written one two a (32 ∷ c) false n) where
    pub road_room : n ≤ length two
    road_room = omega (arith, w.within, w.kept, b.within, b.kept, length-append h (32 ∷ d))

    pub road_answer : (t : Bool) → t ≡ road (take n two) → Answered old two t (road_of h d c)
    road_answer t x =
        let all_three = both_written old one two (h ++ (32 ∷ d)) c false 0 a n b w in
        record { kept = all_three.kept; is = x ∙ ap road (all_three.made ∙ ap upper joined) }
      where
        joined : (h ++ (32 ∷ d)) ++ (32 ∷ c) ≡ h ++ text " " ++ d ++ text " " ++ c
        joined = rw (append_assoc (h ++ text " " ++ d) (32 ∷ []) c, append_assoc h (32 ∷ []) d) refl
