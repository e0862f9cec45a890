-- Law. A word keeps marks: what is spread from it is marked as what it was gathered from.
use Rattle.std.specs.Prelude.{◌≡◌, refl, Bool, true, false, eqb, length, get_or, drop, set}
use Rattle.std.proofs.Math.Path.{sym, ap}
use Rattle.std.proofs.Common.{◌∙◌, add-one, drop-cons, take-suc-set, take_all, eq-eqb, ne_eqb}
use mathlib.Core.List.{List, [], ◌∷◌, ◌++◌, append_assoc, append-nil}
use Rattle.std.proofs.Math.Bool.{cond}
use Prim.Native.Nat.{ℕ, zero, suc, ◌+◌, ◌-◌, ◌*◌, ◌/◌, ◌%◌, ◌≤◌, ◌<◌}
use native.Mathlib.Omega.{arith}
use Rattle.std.proofs.Math.ListN.{take, length-drop, length-set}
use Rattle.std.proofs.Math.Seq.{drop-length}
use Rattle.alerts_lines.specs.Promises.Marks.{on, Lines}
use Rattle.alerts_text.specs.Promises.Word.{bit_of, bits_of, word_of}

-- ---- a bit

pub bit_set : (w : ℕ) → w % 2 ≡ 1 → 1 ≡ bit_of w
bit_set w e = sym (rw (eq-eqb (w % 2) 1 e) refl)

pub bit_clear : (w : ℕ) → (w % 2 ≡ 1 → ⊥) → 0 ≡ bit_of w
bit_clear w e = sym (rw (ne_eqb (w % 2) 1 e) refl)

pub below_set : (w b : ℕ) → b ≡ 1 → 1 + 2 * w ≡ cond (eqb b 1) 1 0 + 2 * w
below_set w b e = rw (eq-eqb b 1 e) refl

pub below_clear : (w b : ℕ) → (b ≡ 1 → ⊥) → 2 * w ≡ cond (eqb b 1) 1 0 + 2 * w
below_clear w b e = sym (rw (ne_eqb b 1 e) (omega arith))

-- ---- spreading

-- k bits are spread, and what is left of the word has the others
pub record Spreading (word : ℕ) (marks : List ℕ) (left k : ℕ) : Type 0 where
  pub within : k ≤ 32
  pub long : length marks ≡ 32
  pub is : take k marks ++ bits_of (32 - k) left ≡ bits_of 32 word

pub spread_start : (word : ℕ) (marks : List ℕ) → length marks ≡ 32 → Spreading word marks word 0
spread_start word marks h = record { within = omega arith; long = h; is = refl }

module _ {word : ℕ} {marks : List ℕ} {left k : ℕ} (S : Spreading word marks left k) where
  pub spread_more : {b : ℕ} → k < 32 → b ≡ bit_of left → Spreading word (set marks k b) (left / 2) (k + 1)
  unfolding bits_of
  spread_more {b} h e = record {
    within = omega arith;
    long = length-set marks k b ∙ S.long;
    is =
        let n : 32 - k ≡ suc (32 - (k + 1)) = omega arith in
        rw (add-one k) (ap (λ l. l ++ bits_of (32 - suc k) (left / 2)) (take-suc-set marks k b (omega (arith, S.long))))
        ∙ append_assoc (take k marks) (b ∷ []) (bits_of (32 - (k + 1)) (left / 2))
        ∙ ap (λ l. take k marks ++ l)
        (ap (λ x. x ∷ bits_of (32 - (k + 1)) (left / 2)) e ∙ sym (ap (λ n. bits_of n left) n))
        ∙ S.is;
  }

  pub spread_end : 32 ≤ k → marks ≡ bits_of 32 word
  unfolding bits_of
  spread_end h =
      let z : 32 - k ≡ 0 = omega arith in
      sym (ap (λ l. l ++ bits_of (32 - k) left) (take_all k marks (omega (arith, S.long)))
      ∙ ap (λ n. marks ++ bits_of n left) z ∙ append-nil marks)
      ∙ S.is

-- ---- gathering

powers : ℕ → ℕ
powers zero = 1
powers (suc n) = 2 * powers n

word_below : (n : ℕ) (l : List ℕ) → length l ≤ n → word_of l < powers n
unfolding powers word_of
word_below zero [] h = omega arith
word_below zero (b ∷ l) h = absurd (omega arith)
word_below (suc n) [] h = omega (arith, word_below n [] (omega arith))
word_below (suc n) (b ∷ l) h = go (eqb b 1) (word_below n l (omega arith))
  where
    go : (t : Bool) → word_of l < powers n → cond t 1 0 + 2 * word_of l < 2 * powers n
    go true e = omega arith
    go false e = omega arith

pub record Gathering (marks : List ℕ) (word k : ℕ) : Type 0 where
  pub within : k ≤ 32
  pub long : length marks ≡ 32
  pub is : word ≡ word_of (drop k marks)

pub gather_start : (marks : List ℕ) → length marks ≡ 32 → Gathering marks 0 32
unfolding word_of
gather_start marks long = record {
  within = omega arith;
  long = long;
  is = sym (ap word_of (ap (λ n. drop n marks) (sym long) ∙ drop-length marks));
}

module _ {marks : List ℕ} {word k : ℕ} (G : Gathering marks word k) where
  pub gather_room : 0 < k → word < 2147483648
  unfolding powers
  gather_room h = omega (arith, G.is, word_below 31 (drop k marks) (omega (arith, G.long, length-drop k marks)))

  pub gather_more : {r : ℕ} → 0 < k → r ≡ cond (eqb (get_or marks (k - 1) 0) 1) 1 0 + 2 * word
      → Gathering marks r (k - 1)
  unfolding word_of
  gather_more h e = record {
    within = omega (arith, G.within);
    long = G.long;
    is =
        let n : suc (k - 1) ≡ k = omega arith in
        e ∙ ap (λ w. cond (eqb (get_or marks (k - 1) 0) 1) 1 0 + 2 * w)
        (G.is ∙ sym (ap (λ j. word_of (drop j marks)) n))
        ∙ sym (ap word_of (drop-cons marks (k - 1) 0 (omega (arith, G.within, G.long))));
  }

  pub gather_end : k ≤ 0 → word ≡ word_of marks
  gather_end h = let z : k ≡ 0 = omega arith in G.is ∙ ap (λ j. word_of (drop j marks)) z

-- ---- what is spread is what was gathered

halves : (t : Bool) (w : ℕ) → (bit_of (cond t 1 0 + 2 * w) ≡ cond t 1 0) × ((cond t 1 0 + 2 * w) / 2 ≡ w)
halves true w = let e : (1 + 2 * w) % 2 ≡ 1 = omega arith in (rw (eq-eqb ((1 + 2 * w) % 2) 1 e) refl, omega arith)
halves false w =
    let e : (0 + 2 * w) % 2 ≡ 0 = omega arith in
    (rw (ne_eqb ((0 + 2 * w) % 2) 1 (λ x. omega (arith, e))) refl, omega arith)

marks_back : (l : List ℕ) (k : ℕ) → on (bits_of (length l) (word_of l)) k ≡ on l k
unfolding bits_of word_of on
marks_back [] k = refl
marks_back (b ∷ l) k = go (eqb b 1) refl k (marks_back l)
  where
    go : (t : Bool) → eqb b 1 ≡ t → (k : ℕ) → ((k : ℕ) → on (bits_of (length l) (word_of l)) k ≡ on l k)
        → eqb (get_or (bit_of (cond t 1 0 + 2 * word_of l) ∷ bits_of (length l) ((cond t 1 0 + 2 * word_of l) / 2)) k 0)
        1
        ≡ eqb (get_or (b ∷ l) k 0) 1
    go t e zero ih = rw (halves t (word_of l)).0 (bit t e)
      where
        bit : (t : Bool) → eqb b 1 ≡ t → eqb (cond t 1 0) 1 ≡ eqb b 1
        bit true e = sym e
        bit false e = sym e
    go t e (suc k) ih = rw (halves t (word_of l)).1 (ih k)

pub kept_lines : (f : ℕ → Bool) (l : List ℕ) (w : ℕ) → length l ≡ 32 → w ≡ word_of l → Lines f l
    → Lines f (bits_of 32 w)
kept_lines f l w long e L = record {
  each = λ k h.
      ap (λ n. on (bits_of n w) k) (sym long) ∙ ap (λ x. on (bits_of (length l) x) k) e ∙ marks_back l k ∙ L.each k h;
}
