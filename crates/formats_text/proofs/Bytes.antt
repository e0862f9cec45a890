-- Bytes that all pass a test, and the walk over a text of UTF-8.
use Rattle.std.proofs.Common.{◌≡◌, refl, ap, sym, ◌∙◌, Bool, true, false, ◌&&◌, List, [], ◌∷◌, ◌++◌}
use Rattle.std.proofs.Common.{ℕ, zero, suc, ◌+◌, ◌-◌, ◌<◌, ◌≤◌, length, take, drop, eqb, arith}
use Rattle.std.specs.List.{list_all}
use Rattle.std.proofs.lemmas.List.{take-append-drop, take_rest, drop-drop}
use Rattle.std.proofs.Math.Seq.{take-add}
use lib.ListN.{drop_of_length-le}
use borrow.Author.Tests.{ne_eqb}
use Rattle.basics.specs.Lists.{all}
use Rattle.basics.specs.Laws.Booleans.{and_assoc, and_true}
use Rattle.formats.specs.Class.{inside, sequences}
use Rattle.formats_text.specs.Promises.Due.{ranges}

-- what the first counts in both counts once
again : (w z u y : Bool) → u ≡ (z && y) → ((w && z) && u) ≡ (w && u)
again true true u y e = refl
again true false u y e = sym e
again false z u y e = refl

module _ (p : ℕ → Bool) where
  pub all_is : (xs : List ℕ) → list_all p xs ≡ all p xs
  all_is [] = refl
  all_is (x ∷ xs) = ap (λ b. p x && b) (all_is xs)

  all_append : (xs ys : List ℕ) → all p (xs ++ ys) ≡ (all p xs && all p ys)
  all_append [] ys = refl
  all_append (x ∷ xs) ys = ap (λ b. p x && b) (all_append xs ys) ∙ sym (and_assoc (p x) (all p xs) (all p ys))

  split : (i : ℕ) (v : List ℕ) → all p v ≡ (all p (take i v) && all p (drop i v))
  split i v = ap (all p) (sym (take-append-drop i v)) ∙ all_append (take i v) (drop i v)

  -- the first i and all from k on, which may have some of the first among them
  ends : (i k : ℕ) (v : List ℕ) → k ≤ i → (all p (take i v) && all p (drop k v)) ≡ all p v
  ends i k v h = let e : i ≡ k + (i - k) = omega arith in
      ap (λ j. all p (take j v) && all p (drop k v)) e ∙ go (i - k)
    where
      go : (m : ℕ) → (all p (take (k + m) v) && all p (drop k v)) ≡ all p v
      go m =
          ap (λ b. b && all p (drop k v)) (ap (all p) (take-add k m v) ∙ all_append (take k v) (take m (drop k v)))
          ∙ again (all p (take k v)) (all p (take m (drop k v))) (all p (drop k v)) (all p (drop m (drop k v)))
          (split m (drop k v))
          ∙ sym (split k v)

  -- the first n and the last n are all
  pub both_ends : (n : ℕ) (v : List ℕ) {s t : Bool} → length v ≤ n + n → s ≡ all p (take n v)
      → t ≡ all p (take (length v - (length v - n)) (drop (length v - n) v)) → (s && t) ≡ all p v
  both_ends n v h e f = rw (e, f, take_rest v (length v - n)) (ends n (length v - n) v (omega arith))

  -- what is left of v behind bytes that pass
  pub record Passed (v left : List ℕ) : Type 0 where
    pub n : ℕ
    pub is : left ≡ drop n v
    pub within : n + length left ≡ length v
    pub front : all p (take n v) ≡ true

  pub passed_start : (v : List ℕ) → Passed v v
  passed_start v = record { n = 0; is = refl; within = omega arith; front = refl }

  module _ {v left : List ℕ} (P : Passed v left) where
    module _ {b : List ℕ} {r : Bool} (e : b ≡ take 8 left) (f : r ≡ all p b) where
      pub passed_more : {rest : List ℕ} → rest ≡ drop 8 left → length rest + 8 ≡ length left → r ≡ true
          → Passed v rest
      passed_more d l t =
          record {
            n = P.n + 8;
            is = d ∙ ap (drop 8) P.is ∙ drop-drop 8 P.n v;
            within = omega (arith, P.within);
            front =
                ap (all p) (take-add P.n 8 v) ∙ all_append (take P.n v) (take 8 (drop P.n v))
                ∙ ap (λ x. x && all p (take 8 (drop P.n v))) P.front
                ∙ ap (all p) (ap (take 8) (sym P.is) ∙ sym e) ∙ sym f ∙ t;
          }

      pub passed_no : r ≡ false → false ≡ all p v
      passed_no t =
          sym (
          split P.n v
          ∙ ap (λ x. x && all p (drop P.n v)) P.front
          ∙ ap (all p) (sym P.is)
          ∙ split 8 left
          ∙ ap (λ x. x && all p (drop 8 left)) (ap (all p) (sym e) ∙ sym f ∙ t)
          )

    pub passed_last : {r : Bool} → length left < 8 → 8 ≤ length v
        → r ≡ all p (take (length v - (length v - 8)) (drop (length v - 8) v)) → r ≡ all p v
    passed_last l h e =
        e
        ∙ ap (all p) (take_rest v (length v - 8))
        ∙ ap (λ x. x && all p (drop (length v - 8) v)) (sym P.front)
        ∙ ends P.n (length v - 8) v (omega (arith, P.within))

-- bytes that are characters by themselves, where none is begun
plain : (xs ys : List ℕ) → all (inside (0, 127)) xs ≡ true → sequences (xs ++ ys) [] ≡ sequences ys []
plain [] ys e = refl
plain (x ∷ xs) ys e = let (a, f) = and_true {x = inside (0, 127) x} e in rw a (plain xs ys f)

-- the walk over a text: what is found of the whole is found from here on
module _ (v : List ℕ) (i k low high : ℕ) (x : Bool) (f : sequences (drop i v) (ranges k low high) ≡ x) where
  pub walk_plain : (r : Bool) → r ≡ all (inside (0, 127)) (take (i + 8 - i) (drop i v)) → r ≡ true → k ≡ 0
      → sequences (drop (i + 8) v) (ranges k low high) ≡ x
  walk_plain r e t z =
      let d : i + 8 - i ≡ 8 = omega arith in
      let eight : sequences (drop i v) [] ≡ sequences (drop (i + 8) v) [] =
      ap (λ l. sequences l []) (sym (take-append-drop 8 (drop i v)))
      ∙ plain (take 8 (drop i v)) (drop 8 (drop i v))
      (ap (λ n. all (inside (0, 127)) (take n (drop i v))) (sym d) ∙ sym e ∙ t)
      ∙ ap (λ l. sequences l []) (drop-drop 8 i v) in
      rw z (sym eight ∙ (rw z at f))

  pub walk_end : length v ≤ i → eqb k 0 ≡ x
  walk_end h = go k (rw (drop_of_length-le v h) at f)
    where
      go : (k : ℕ) → sequences [] (ranges k low high) ≡ x → eqb k 0 ≡ x
      go zero e = e
      go (suc k) e = ne_eqb (suc k) 0 (λ z. omega arith) ∙ e
