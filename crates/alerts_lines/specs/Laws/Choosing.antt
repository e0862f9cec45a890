-- Law. What is asked of the marks is asked of the lines.
use Rattle.std.specs.Prelude.{◌≡◌, List, [], ◌∷◌, ◌++◌, Bool, true, false, not, ◌&&◌, ◌||◌, eqb, get_or, replicate}
use Rattle.std.proofs.Math.Path.{refl, ap}
use Rattle.std.proofs.Common.{sym, ◌∙◌, add-one}
use Prim.Native.Nat.{ℕ, zero, suc, ◌+◌, ◌-◌, ◌≤◌, ◌<◌}
use native.Mathlib.Omega.{arith}
use Rattle.std.proofs.lemmas.Bool.{not-true, not-false}
use Rattle.basics.specs.Lists.{any}
use Rattle.basics.specs.Texts.{same}
use Rattle.basics.specs.Laws.Booleans.{or_comm}
use Rattle.basics.specs.Laws.Lists.{any_append}
use Rattle.alerts.specs.Text.{text}
use Rattle.alerts.specs.Applies.{letters}
use Rattle.alerts_lines.specs.Promises.Lines.{line_at, all_lines, IsLine, mentions, named_of}
use Rattle.alerts_lines.specs.Promises.Lines.{subject_of, other_subject}
use Rattle.alerts_lines.specs.Promises.Marks.{on, Marked, Lines, any_from, pick_of, picks}
use Rattle.alerts_lines.specs.declared.Pick.{Pick}
use Rattle.alerts_lines.specs.declared.Pick.TheVariants.{Named, Own, Another, Subject}
use Rattle.alerts_lines.specs.Laws.Rows.{fresh_on}

-- what is asked of a line
module _ (pick : Pick) (n p o : Bool) where
  pub pick_unnamed : not n ≡ true → false ≡ pick_of pick n p o
  pick_unnamed h = go pick (not-true n h)
    where
      go : (q : Pick) → n ≡ false → false ≡ pick_of q n p o
      go Named e = sym e
      go Own e = sym (rw e refl)
      go Another e = sym (rw e refl)
      go Subject e = sym (rw e refl)

  pub pick_named : not n ≡ false → pick ≡ Named → true ≡ pick_of pick n p o
  pick_named h e = rw (e, not-false n h) refl

  pub pick_own : not n ≡ false → pick ≡ Own → o ≡ pick_of pick n p o
  pick_own h e = rw (e, not-false n h) refl

  pub pick_another : not n ≡ false → pick ≡ Another → not o ≡ pick_of pick n p o
  pick_another h e = rw (e, not-false n h) refl

  pub pick_not : not n ≡ false → pick ≡ Subject → o ≡ true → false ≡ pick_of pick n p o
  pick_not h e g = rw (e, not-false n h, g) refl

  pub pick_subject : not n ≡ false → pick ≡ Subject → o ≡ false → p ≡ pick_of pick n p o
  pick_subject h e g = rw (e, not-false n h, g) refl

-- the lines from k on are still to be asked
pub record Unasked (f : ℕ → Bool) (k : ℕ) : Type 0 where
  pub within : k ≤ 32
  pub whole : any_from 0 32 f ≡ any_from k (32 - k) f

pub unasked_start : (f : ℕ → Bool) → Unasked f 0
unasked_start f = record { within = omega arith; whole = refl }

pub unasked_end : (f : ℕ → Bool) (k : ℕ) → Unasked f k → 32 ≤ k → false ≡ any_from 0 32 f
unasked_end f k U h = let z : 32 - k ≡ 0 = omega arith in sym (U.whole ∙ ap (λ n. any_from k n f) z)

module _ (pick : Pick) (named subject : List ℕ) (own k : ℕ) (U : Unasked (picks pick named subject own) k) (h : k < 32)
    (r : Bool) (hr : r ≡ pick_of pick (eqb (get_or named k 0) 1) (eqb (get_or subject k 0) 1) (eqb k own)) where
  step : any_from 0 32 (picks pick named subject own)
      ≡ r || any_from (k + 1) (32 - (k + 1)) (picks pick named subject own)
  unfolding on
  step =
      let n : 32 - k ≡ suc (32 - (k + 1)) = omega arith in
      U.whole ∙ ap (λ n. any_from k n (picks pick named subject own)) n ∙ rw (add-one k, hr) refl

  pub asked_yes : r ≡ true → true ≡ any_from 0 32 (picks pick named subject own)
  asked_yes e = sym (step ∙ ap (λ x. x || any_from (k + 1) (32 - (k + 1)) (picks pick named subject own)) e)

  pub asked_no : r ≡ false → Unasked (picks pick named subject own) (k + 1)
  asked_no e = record {
    within = omega arith;
    whole = step ∙ ap (λ x. x || any_from (k + 1) (32 - (k + 1)) (picks pick named subject own)) e;
  }

-- the lines in the order of the marks are the lines
tens : List (List ℕ)
tens = text "10" ∷ text "11" ∷ text "12" ∷ text "13" ∷ text "14" ∷ []

twos : List (List ℕ)
twos = text "2" ∷ text "3" ∷ text "4" ∷ text "5" ∷ text "6" ∷ text "7" ∷ text "8" ∷ text "9" ∷ []

towers : List (List ℕ)
towers = text "T10" ∷ text "T11" ∷ text "T12" ∷ text "T13" ∷ []

tram_twos : List (List ℕ)
tram_twos = text "T2" ∷ text "T3" ∷ text "T4" ∷ text "T5" ∷ text "T6" ∷ text "T7" ∷ text "T8" ∷ text "T9" ∷ []

module _ (q : List ℕ → Bool) where
  in_order : any_from 0 32 (λ k. q (line_at k))
      ≡ any q (letters ++ ((text "1" ∷ (tens ++ twos)) ++ (text "T1" ∷ (towers ++ tram_twos))))
  unfolding line_at tens twos towers tram_twos
  in_order = refl

  swapped : (x : List ℕ) (l m : List (List ℕ)) → any q (x ∷ (l ++ m)) ≡ any q (x ∷ (m ++ l))
  swapped x l m = ap (λ b. q x || b) (any_append q l m ∙ or_comm (any q l) (any q m) ∙ sym (any_append q m l))

  listed : any q (letters ++ ((text "1" ∷ (twos ++ tens)) ++ (text "T1" ∷ (tram_twos ++ towers)))) ≡ any q all_lines
  unfolding tens twos towers tram_twos
  listed = refl

  pub any_lines : any_from 0 32 (λ k. q (line_at k)) ≡ any q all_lines
  any_lines =
      in_order
      ∙ any_append q letters ((text "1" ∷ (tens ++ twos)) ++ (text "T1" ∷ (towers ++ tram_twos)))
      ∙ ap (λ b. any q letters || b)
      (any_append q (text "1" ∷ (tens ++ twos)) (text "T1" ∷ (towers ++ tram_twos))
      ∙ ap (λ b. b || any q (text "T1" ∷ (towers ++ tram_twos))) (swapped (text "1") tens twos)
      ∙ ap (λ b. any q (text "1" ∷ (twos ++ tens)) || b) (swapped (text "T1") towers tram_twos)
      ∙ sym (any_append q (text "1" ∷ (twos ++ tens)) (text "T1" ∷ (tram_twos ++ towers))))
      ∙ sym (any_append q letters ((text "1" ∷ (twos ++ tens)) ++ (text "T1" ∷ (tram_twos ++ towers))))
      ∙ listed

-- tests that agree on all lines
any_agree : (f g : ℕ → Bool) → ((k : ℕ) → k < 32 → f k ≡ g k) → (n k : ℕ) → k + n ≤ 32 → any_from k n f ≡ any_from k n g
any_agree f g e zero k h = refl
any_agree f g e (suc n) k h = rw (e k (omega arith), any_agree f g e n (suc k) (omega arith)) refl

as_lines : (q : List ℕ → Bool) (f : ℕ → Bool) (r : Bool) → ((k : ℕ) → k < 32 → f k ≡ q (line_at k))
    → r ≡ any_from 0 32 f
    → r ≡ any q all_lines
as_lines q f r e x = x ∙ any_agree f (λ k. q (line_at k)) e 32 0 (omega arith) ∙ any_lines q

-- fresh marks
pub lines_fresh : (f : ℕ → Bool) (m : List ℕ) → Marked f (replicate 32 0) m → Lines f m
lines_fresh f m M = record { each = λ k h. fresh_on f m M k h }

module _ (s u named subject : List ℕ) (own : ℕ) (N : Lines (named_of s) named) (O : IsLine u own) (r : Bool) where
  pub named_lines : r ≡ any_from 0 32 (picks Named named subject own) → r ≡ any (mentions s) all_lines
  named_lines e = as_lines (mentions s) (picks Named named subject own) r (λ k h. N.each k h) e

  pub own_lines : r ≡ any_from 0 32 (picks Own named subject own) → r ≡ any (λ m. mentions s m && same m u) all_lines
  own_lines e =
      as_lines (λ m. mentions s m && same m u) (picks Own named subject own) r
      (λ k h. rw (N.each k h, O.each k h) refl) e

  pub other_lines : r ≡ any_from 0 32 (picks Another named subject own)
      → r ≡ any (λ m. mentions s m && not (same m u)) all_lines
  other_lines e =
      as_lines (λ m. mentions s m && not (same m u)) (picks Another named subject own) r
      (λ k h. rw (N.each k h, O.each k h) refl) e

  pub subject_lines : Marked (subject_of s) (replicate 32 0) subject
      → r ≡ any_from 0 32 (picks Subject named subject own) → r ≡ any (other_subject s u) all_lines
  subject_lines P e =
      as_lines (other_subject s u) (picks Subject named subject own) r
      (λ k h. rw (N.each k h, O.each k h, fresh_on (subject_of s) subject P k h) refl) e
