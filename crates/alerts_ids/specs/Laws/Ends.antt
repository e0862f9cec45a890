-- Law. Texts from their ends: what trimming leaves, the last byte of a kind, an end of a given length.
use Rattle.std.specs.Prelude.{◌≡◌, refl, List, [], ◌∷◌, ◌++◌, Bool, true, false, cond, ◌&&◌, ℕ, zero, suc, ◌+◌, ◌-◌, ◌≤◌, ◌<◌, eqb, ltb, length, get_or, take, drop}
use Rattle.std.proofs.Common.{sym, ap, ◌∙◌, append-nil, add-one, arith, length-drop, drop_of_length-le, take-append-drop, drop-cons, take-suc, take_all, length-take-le, eq-eqb, ne_eqb, lt-ltb, le-ltb, ltb-false}
use Rattle.std.proofs.Math.Option.{none, some}
use Rattle.std.proofs.Math.Seq.{take-length, drop-length}
use Rattle.basics.specs.Lists.{is_empty}
use Rattle.basics.specs.Texts.{same}
use Rattle.basics.specs.Laws.Booleans.{and_no, or_false}
use Rattle.alerts.specs.Text.{text, ends, upper_byte, same_ignoring_case, trim_start, trim_end, trim, split_off, rsplit_once}
use Rattle.alerts.specs.Index.{undated, part_before}
use Rattle.alerts_ids.specs.Promises.Cuts.{LastOf}

-- ---- equality ignoring case, from i on

pub other_length : (a b : List ℕ) → (length a ≡ length b → ⊥) → false ≡ same_ignoring_case a b
other_length [] [] h = absurd (h refl)
other_length [] (y ∷ b) h = refl
other_length (x ∷ a) [] h = refl
other_length (x ∷ a) (y ∷ b) h =
    rw (← other_length a b (λ e. h (ap suc e))) (sym (and_no (eqb (upper_byte x) (upper_byte y))))

pub record Alike (a b : List ℕ) (i : ℕ) : Type 0 where
  pub within : i ≤ length a
  pub long : length a ≡ length b
  pub whole : same_ignoring_case a b ≡ same_ignoring_case (drop i a) (drop i b)

pub alike_start : (a b : List ℕ) → length a ≡ length b → Alike a b 0
alike_start a b h = record { within = omega arith; long = h; whole = refl }

alike_step : (a b : List ℕ) (i : ℕ) → Alike a b i → i < length a
    → same_ignoring_case a b ≡ eqb (upper_byte (get_or a i 0)) (upper_byte (get_or b i 0))
    && same_ignoring_case (drop (suc i) a) (drop (suc i) b)
alike_step a b i s h =
    let k : i < length b = omega (arith, s.long) in
    s.whole ∙ rw (drop-cons a i 0, drop-cons b i 0) refl

pub alike_more : (a b : List ℕ) (i x y : ℕ) → Alike a b i → i < length a → x ≡ upper_byte (get_or a i 0)
    → y ≡ upper_byte (get_or b i 0) → x ≡ y → Alike a b (i + 1)
alike_more a b i x y s h ex ey e = record {
  within = omega arith;
  long = s.long;
  whole = alike_step a b i s h ∙ rw (← ex, ← ey, eq-eqb x y e, add-one i) refl;
}

pub alike_differs : (a b : List ℕ) (i x y : ℕ) → Alike a b i → i < length a → x ≡ upper_byte (get_or a i 0)
    → y ≡ upper_byte (get_or b i 0) → (x ≡ y → ⊥) → false ≡ same_ignoring_case a b
alike_differs a b i x y s h ex ey d = sym (alike_step a b i s h ∙ rw (← ex, ← ey, ne_eqb x y d) refl)

pub alike_whole : (a b : List ℕ) (i : ℕ) → Alike a b i → length a ≤ i → true ≡ same_ignoring_case a b
alike_whole a b i s h =
    let k : length b ≤ i = omega (arith, s.long) in
    sym (s.whole ∙ rw (drop_of_length-le a h, drop_of_length-le b k) refl)

-- what a part from a on holds
pub rest : {A : Type 0} (s : List A) (a : ℕ) → take (length s - a) (drop a s) ≡ drop a s
rest s a = take_all (length s - a) (drop a s) (omega (arith, length-drop a s))

-- ---- trimming

pub record Leads (s : List ℕ) (a : ℕ) : Type 0 where
  pub within : a ≤ length s
  pub whole : trim_start s ≡ trim_start (drop a s)

pub leads_start : (s : List ℕ) → Leads s 0
leads_start s = record { within = omega arith; whole = refl }

pub leads_more : (s : List ℕ) (a : ℕ) → Leads s a → a < length s → get_or s a 0 ≡ 32 → Leads s (a + 1)
leads_more s a l h e = record {
  within = omega arith;
  whole = l.whole ∙ rw (drop-cons s a 0, eq-eqb (get_or s a 0) 32 e, add-one a) refl;
}

pub leads_end : (s : List ℕ) (a : ℕ) → Leads s a → a < length s → (get_or s a 0 ≡ 32 → ⊥)
    → take (length s - a) (drop a s) ≡ trim_start s
leads_end s a l h d =
    rest s a ∙ sym (l.whole ∙ rw (drop-cons s a 0, ne_eqb (get_or s a 0) 32 d) refl)

pub leads_all : (s : List ℕ) (a : ℕ) → Leads s a → length s ≤ a → take (length s - a) (drop a s) ≡ trim_start s
leads_all s a l h = rest s a ∙ sym (l.whole ∙ rw (drop_of_length-le s h) refl)

-- a text and one byte more
trim_space : (x : List ℕ) → trim_end (x ++ (32 ∷ [])) ≡ trim_end x
trim_space [] = refl
trim_space (b ∷ x) = rw (trim_space x) refl

trim_other : (x : List ℕ) (c : ℕ) → eqb c 32 ≡ false → trim_end (x ++ (c ∷ [])) ≡ x ++ (c ∷ [])
trim_other [] c e = rw e refl
trim_other (b ∷ x) c e = rw (trim_other x c e) (go (eqb b 32) x)
  where
    go : (t : Bool) (x : List ℕ) → cond (t && is_empty (x ++ (c ∷ []))) [] (b ∷ (x ++ (c ∷ []))) ≡ b ∷ (x ++ (c ∷ []))
    go true [] = refl
    go true (d ∷ x) = refl
    go false x = refl

last_byte : (s : List ℕ) (e : ℕ) → 0 < e → e ≤ length s → take e s ≡ take (e - 1) s ++ (get_or s (e - 1) 0 ∷ [])
last_byte s e z h =
    let n : e ≡ suc (e - 1) = omega arith in
    ap (λ k. take k s) n ∙ take-suc s (e - 1) 0 (omega arith)

pub record Trails (s : List ℕ) (e : ℕ) : Type 0 where
  pub within : e ≤ length s
  pub whole : trim_end s ≡ trim_end (take e s)

pub trails_part : {s : List ℕ} {e : ℕ} → Trails s e → e ≡ length (take e s)
trails_part {s} {e} t = sym (length-take-le e s t.within)

pub trails_start : (s : List ℕ) → Trails s (length s)
trails_start s = record { within = omega arith; whole = ap trim_end (sym (take-length s)) }

pub trails_more : (s : List ℕ) (e : ℕ) → Trails s e → 0 < e → get_or s (e - 1) 0 ≡ 32 → Trails s (e - 1)
trails_more s e t z h = record {
  within = omega (arith, t.within);
  whole = t.whole ∙ ap trim_end (last_byte s e z t.within) ∙ rw h (trim_space (take (e - 1) s));
}

pub trails_end : (s : List ℕ) (e : ℕ) → Trails s e → 0 < e → (get_or s (e - 1) 0 ≡ 32 → ⊥) → take e s ≡ trim_end s
trails_end s e t z d =
    let l = last_byte s e z t.within in
    sym (t.whole ∙ ap trim_end l ∙ trim_other (take (e - 1) s) (get_or s (e - 1) 0) (ne_eqb (get_or s (e - 1) 0) 32 d)
    ∙ sym l)

pub trails_none : (s : List ℕ) (e : ℕ) → Trails s e → e ≤ 0 → take e s ≡ trim_end s
trails_none s e t z = let n : e ≡ 0 = omega arith in sym (t.whole ∙ rw n refl)

-- trimming makes nothing longer
start_shorter : (s : List ℕ) → length (trim_start s) ≤ length s
start_shorter [] = omega arith
start_shorter (b ∷ s) = go (eqb b 32) (start_shorter s)
  where
    go : (t : Bool) → length (trim_start s) ≤ length s → length (cond t (trim_start s) (b ∷ s)) ≤ suc (length s)
    go true h = omega arith
    go false h = omega arith

pub end_shorter : (s : List ℕ) → length (trim_end s) ≤ length s
end_shorter [] = omega arith
end_shorter (b ∷ s) = go (eqb b 32 && is_empty (trim_end s)) (end_shorter s)
  where
    go : (t : Bool) → length (trim_end s) ≤ length s → length (cond t [] (b ∷ trim_end s)) ≤ suc (length s)
    go true h = omega arith
    go false h = omega arith

pub trim_shorter : (s : List ℕ) → length (trim s) ≤ length s
trim_shorter s = omega (arith, end_shorter (trim_start s), start_shorter s)

-- ---- the last byte of a kind

pub record Without (c : ℕ) (s : List ℕ) (e : ℕ) : Type 0 where
  pub within : e ≤ length s
  pub none_left : rsplit_once c (drop e s) ≡ none

pub without_start : (c : ℕ) (s : List ℕ) → Without c s (length s)
without_start c s = record { within = omega arith; none_left = rw (drop-length s) refl }

from_last : (c : ℕ) (s : List ℕ) (e : ℕ) → Without c s e → 0 < e
    → rsplit_once c (drop (e - 1) s) ≡ split_off (eqb (get_or s (e - 1) 0) c) (get_or s (e - 1) 0) (drop e s) none
from_last c s e w z =
    let n : suc (e - 1) ≡ e = omega arith in
    ap (rsplit_once c) (drop-cons s (e - 1) 0 (omega (arith, w.within)))
    ∙ ap (λ k. split_off (eqb (get_or s (e - 1) 0) c) (get_or s (e - 1) 0) (drop k s) (rsplit_once c (drop k s))) n
    ∙ ap (split_off (eqb (get_or s (e - 1) 0) c) (get_or s (e - 1) 0) (drop e s)) w.none_left

pub without_more : (c : ℕ) (s : List ℕ) (e : ℕ) → Without c s e → 0 < e → (get_or s (e - 1) 0 ≡ c → ⊥)
    → Without c s (e - 1)
without_more c s e w z d = record {
  within = omega (arith, w.within);
  none_left = from_last c s e w z ∙ rw (ne_eqb (get_or s (e - 1) 0) c d) refl;
}

-- what is found past the first k bytes is found in the whole
found_past : (c : ℕ) (x y t u : List ℕ) → rsplit_once c t ≡ some (y, u) → rsplit_once c (x ++ t) ≡ some (x ++ y, u)
found_past c [] y t u e = e
found_past c (b ∷ x) y t u e = rw (found_past c x y t u e) refl

pub last_here : (c : ℕ) (s : List ℕ) (e : ℕ) → Without c s e → 0 < e → get_or s (e - 1) 0 ≡ c → LastOf c s (e - 1)
last_here c s e w z h =
    let n : suc (e - 1) ≡ e = omega arith in
    let here : rsplit_once c (drop (e - 1) s) ≡ some ([], drop e s) =
    from_last c s e w z ∙ rw (eq-eqb (get_or s (e - 1) 0) c h) refl in
    record {
      within = omega (arith, w.within);
      cut = ap (rsplit_once c) (sym (take-append-drop (e - 1) s))
          ∙ found_past c (take (e - 1) s) [] (drop (e - 1) s) (drop e s) here
          ∙ rw (lt-ltb (e - 1) (length s) (omega (arith, w.within)), append-nil (take (e - 1) s), n) refl;
    }

pub last_none : (c : ℕ) (s : List ℕ) (e : ℕ) → Without c s e → e ≤ 0 → LastOf c s (length s)
last_none c s e w z =
    let n : e ≡ 0 = omega arith in
    record {
      within = omega arith;
      cut = (rw n at w.none_left) ∙ rw (le-ltb (length s) (length s) (omega arith)) refl;
    }

pub cut_part : {c : ℕ} {s : List ℕ} {r : ℕ} → LastOf c s r → r ≡ length (take r s)
cut_part {s} {r} l = sym (length-take-le r s l.within)

-- a trip id up to its last '@'
pub undated_cut : (t : List ℕ) (r : ℕ) → LastOf 0x40 t r → take r t ≡ undated t
undated_cut t r l = sym (ap (part_before t) l.cut ∙ go (ltb r (length t)) refl)
  where
    go : (b : Bool) → ltb r (length t) ≡ b → part_before t (cond b (some (take r t, drop (suc r) t)) none) ≡ take r t
    go true e = refl
    go false e = sym (take_all r t (ltb-false r (length t) e))

-- ---- an end of a given length

same_long : (x y : List ℕ) → (length x ≡ length y → ⊥) → same x y ≡ false
same_long [] [] h = absurd (h refl)
same_long [] (y ∷ b) h = refl
same_long (x ∷ a) [] h = refl
same_long (x ∷ a) (y ∷ b) h = rw (same_long a b (λ e. h (ap suc e))) (and_no (eqb x y))

ends_short : (p s : List ℕ) → length s < length p → ends p s ≡ false
ends_short [] s h = absurd (omega arith)
ends_short (a ∷ p) [] h = refl
ends_short (a ∷ p) (b ∷ s) h =
    rw (same_long (a ∷ p) (b ∷ s) (λ e. omega arith), ends_short (a ∷ p) s (omega arith)) refl

-- only the end as long as p counts
ends_drop : (p s : List ℕ) (k : ℕ) → k + length p ≡ length s → ends p s ≡ same p (drop k s)
ends_drop [] s k h =
    let g : length s ≤ k = omega arith in
    ends_empty s ∙ ap (same []) (sym (drop_of_length-le s g))
  where
    ends_empty : (s : List ℕ) → ends [] s ≡ true
    ends_empty [] = refl
    ends_empty (b ∷ s) = ends_empty s
ends_drop (a ∷ p) [] k h = absurd (omega arith)
ends_drop (a ∷ p) (b ∷ s) zero h = rw (ends_short (a ∷ p) s (omega arith)) (or_false (same (a ∷ p) (b ∷ s)))
ends_drop (a ∷ p) (b ∷ s) (suc k) h =
    rw (same_long (a ∷ p) (b ∷ s) (λ e. omega arith)) (ends_drop (a ∷ p) s k (omega arith))

module _ (t x : List ℕ) where
  pub colon_short : length t ≤ length x → false ≡ ends (text ":" ++ x) t
  colon_short h = sym (ends_short (0x3a ∷ x) t (omega arith))

  pub colon_end : length x < length t
      → ends (text ":" ++ x) t
      ≡ eqb 0x3a (get_or t (length t - length x - 1) 0) && same x (drop (length t - length x) t)
  colon_end h =
      let k = length t - length x - 1 in
      let n : suc k ≡ length t - length x = omega arith in
      ends_drop (0x3a ∷ x) t k (omega arith) ∙ ap (same (0x3a ∷ x)) (drop-cons t k 0 (omega arith))
      ∙ ap (λ j. eqb 0x3a (get_or t k 0) && same x (drop j t)) n

  pub colon_differs : length x < length t → (get_or t (length t - length x - 1) 0 ≡ 0x3a → ⊥)
      → false ≡ ends (text ":" ++ x) t
  colon_differs h d =
      sym (colon_end h ∙ rw (ne_eqb 0x3a (get_or t (length t - length x - 1) 0) (λ e. d (sym e))) refl)

  pub colon_same : (r : Bool) → length x < length t → get_or t (length t - length x - 1) 0 ≡ 0x3a
      → r ≡ same x (take (length t - (length t - length x)) (drop (length t - length x) t))
      → r ≡ ends (text ":" ++ x) t
  colon_same r h e g =
      sym (colon_end h ∙ rw (eq-eqb 0x3a (get_or t (length t - length x - 1) 0) (sym e))
      (ap (same x) (sym (rest t (length t - length x))) ∙ sym g))
