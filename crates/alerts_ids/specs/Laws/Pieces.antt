-- Law. The pieces of a text: where one more cut or one more byte stands, the last piece that a test takes, the first
-- product code.
use Rattle.std.specs.Prelude.{◌≡◌, refl, List, [], ◌∷◌, ◌++◌, Bool, true, false, cond, not, ◌&&◌, ℕ, suc, ◌+◌, ◌-◌, ◌≤◌, ◌<◌, eqb, leb, length, get_or, take, drop, Some, None}
use Rattle.std.proofs.Common.{sym, ap, ◌∙◌, append-nil, add-one, arith, length-drop, drop_of_length-le, take-append-drop, drop-cons, take-suc, take-add, get_or-drop, drop-drop, eq-eqb, ne_eqb, eqb-true, lt-ltb, le-ltb, le-leb}
use Rattle.std.proofs.Math.Option.{some}
use Rattle.std.proofs.Math.Seq.{take-length}
use Rattle.std.proofs.lemmas.Bool.{lt-leb, not-false}
use Rattle.basics.specs.Lists.{all, any}
use Rattle.basics.specs.Laws.Booleans.{false_true, and_true, not_true}
use Rattle.alerts.specs.Text.{upper_byte, upper, digit, alphanumeric, trim_end, trim, onto, split}
use Rattle.alerts.specs.Applies.{is_code, first_code, product_code_token, last_of, rfind}
use Rattle.alerts_ids.specs.Promises.Cuts.{part_of, cuts, pieces_before, LastPiece, takes, breaks, pieces_after}
use Rattle.alerts_ids.specs.Promises.Cuts.{FirstPiece, Coded}

-- ---- splits, at any cut

onto_split : (cut : ℕ → Bool) (b : ℕ) (z : List ℕ) (m : List (List ℕ))
    → onto b (split cut z ++ m) ≡ onto b (split cut z) ++ m
onto_split cut b [] m = refl
onto_split cut b (c ∷ z) m = go (cut c) (split cut z)
  where
    go : (t : Bool) (r : List (List ℕ))
        → onto b (cond t ([] ∷ r) (onto c r) ++ m) ≡ onto b (cond t ([] ∷ r) (onto c r)) ++ m
    go true r = refl
    go false [] = refl
    go false (p ∷ l) = refl

split_cut : (cut : ℕ → Bool) (z : List ℕ) (c : ℕ) (y : List ℕ) → cut c ≡ true
    → split cut (z ++ (c ∷ y)) ≡ split cut z ++ split cut y
split_cut cut [] c y e = rw e refl
split_cut cut (b ∷ z) c y e = rw (split_cut cut z c y e) (go (cut b))
  where
    go : (t : Bool) → cond t ([] ∷ (split cut z ++ split cut y)) (onto b (split cut z ++ split cut y))
        ≡ cond t ([] ∷ split cut z) (onto b (split cut z)) ++ split cut y
    go true = refl
    go false = onto_split cut b z (split cut y)

split_plain : (cut : ℕ → Bool) (y : List ℕ) → all (λ b. not (cut b)) y ≡ true → split cut y ≡ y ∷ []
split_plain cut [] e = refl
split_plain cut (b ∷ y) e = let h = and_true e in rw (not_true (cut b) h.0, split_plain cut y h.1) refl

-- ---- the last piece up to e

pub cut_colon : (b : ℕ) → b ≡ 0x3a → true ≡ cuts b
cut_colon b e = rw (eq-eqb b 0x3a e) refl

pub cut_other : (b : ℕ) → (b ≡ 0x3a → ⊥) → eqb b 0x2f ≡ cuts b
cut_other b d = rw (ne_eqb b 0x3a d) refl

abbrev pub uncut : ℕ → Bool
uncut b = not (cuts b)

pub record Uncut (x : List ℕ) (e a : ℕ) : Type 0 where
  pub forward : a ≤ e
  pub within : e ≤ length x
  pub plain : all uncut (part_of x a e) ≡ true

no_part : (x : List ℕ) (e : ℕ) → part_of x e e ≡ []
no_part x e = let n : e - e ≡ 0 = omega arith in ap (λ k. take k (drop e x)) n

pub uncut_start : (x : List ℕ) (e : ℕ) → e ≤ length x → Uncut x e e
uncut_start x e h = record { forward = omega arith; within = h; plain = rw (no_part x e) refl }

-- a part that begins one byte earlier
part_cons : (x : List ℕ) (a e : ℕ) → 0 < a → a ≤ e → e ≤ length x
    → part_of x (a - 1) e ≡ get_or x (a - 1) 0 ∷ part_of x a e
part_cons x a e z h k =
    let n : suc (a - 1) ≡ a = omega arith in
    let m : e - (a - 1) ≡ suc (e - a) = omega arith in
    ap (λ j. take j (drop (a - 1) x)) m ∙ ap (take (suc (e - a))) (drop-cons x (a - 1) 0 (omega arith))
    ∙ ap (λ j. get_or x (a - 1) 0 ∷ take (e - a) (drop j x)) n

pub uncut_more : (x : List ℕ) (e a : ℕ) (t : Bool) → Uncut x e a → 0 < a → t ≡ cuts (get_or x (a - 1) 0) → t ≡ false
    → Uncut x e (a - 1)
uncut_more x e a t u z et f = record {
  forward = omega (arith, u.forward);
  within = u.within;
  plain = rw (part_cons x a e z u.forward u.within, sym et ∙ f) u.plain;
}

-- all up to e: what stands before a, and the part
up_to : (x : List ℕ) (a e : ℕ) → a ≤ e → take e x ≡ take a x ++ part_of x a e
up_to x a e h = let n : e ≡ a + (e - a) = omega arith in ap (λ k. take k x) n ∙ take-add a (e - a) x

pub cut_found : (x : List ℕ) (e a : ℕ) (t : Bool) → Uncut x e a → 0 < a → t ≡ cuts (get_or x (a - 1) 0) → t ≡ true
    → LastPiece x e a
cut_found x e a t u z et f =
    let n : a ≡ suc (a - 1) = omega arith in
    let before : pieces_before x a ≡ split cuts (take (a - 1) x) = ap (pieces_before x) n in
    record {
      forward = u.forward;
      pieces =
          ap (split cuts) (up_to x (a - 1) e (omega (arith, u.forward))
          ∙ ap (λ l. take (a - 1) x ++ l) (part_cons x a e z u.forward u.within))
          ∙ split_cut cuts (take (a - 1) x) (get_or x (a - 1) 0) (part_of x a e) (sym et ∙ f)
          ∙ rw (before, split_plain cuts (part_of x a e) u.plain) refl;
    }

pub uncut_whole : (x : List ℕ) (e a : ℕ) → Uncut x e a → a ≤ 0 → LastPiece x e a
uncut_whole x e a u z =
    let n : a ≡ 0 = omega arith in
    let first : take e x ≡ part_of x a e = up_to x a e u.forward ∙ rw n refl in
    let none_before : pieces_before x a ≡ [] = ap (pieces_before x) n in
    record {
      forward = u.forward;
      pieces = ap (split cuts) first ∙ split_plain cuts (part_of x a e) u.plain ∙ rw none_before refl;
    }

-- ---- the last piece that is taken

last_of_snoc : (p : List ℕ → Bool) (w : List ℕ) (l : List (List ℕ)) (y : List ℕ)
    → last_of p w (l ++ (y ∷ [])) ≡ cond (p y) y (last_of p w l)
last_of_snoc p w [] y = refl
last_of_snoc p w (x ∷ l) y = last_of_snoc p (cond (p x) x w) l y

pub record Sought (lettered : Bool) (x : List ℕ) (e : ℕ) : Type 0 where
  pub within : e ≤ length x
  pub whole : rfind (takes lettered) x ≡ last_of (takes lettered) x (split cuts (take e x))

pub sought_start : (lettered : Bool) (x : List ℕ) → Sought lettered x (length x)
sought_start lettered x = record {
  within = omega arith;
  whole = ap (λ l. last_of (takes lettered) x (split cuts l)) (sym (take-length x));
}

module _ (lettered : Bool) (x : List ℕ) (e a : ℕ) where
  one_piece : Sought lettered x e → LastPiece x e a
      → rfind (takes lettered) x ≡ cond (takes lettered (part_of x a e)) (part_of x a e)
      (last_of (takes lettered) x (pieces_before x a))
  one_piece s l =
      s.whole ∙ ap (last_of (takes lettered) x) l.pieces
      ∙ last_of_snoc (takes lettered) x (pieces_before x a) (part_of x a e)

  pub piece_taken : (t : Bool) → Sought lettered x e → LastPiece x e a → t ≡ takes lettered (part_of x a e) → t ≡ true
      → part_of x a e ≡ rfind (takes lettered) x
  piece_taken t s l et f = sym (one_piece s l ∙ rw (sym et ∙ f) refl)

  pub none_taken : (t : Bool) → Sought lettered x e → LastPiece x e a → t ≡ takes lettered (part_of x a e) → t ≡ false
      → a ≡ 0 → x ≡ rfind (takes lettered) x
  none_taken t s l et f z =
      let none_before : pieces_before x a ≡ [] = ap (pieces_before x) z in
      sym (one_piece s l ∙ rw (sym et ∙ f, none_before) refl)

  pub sought_more : (t : Bool) → Sought lettered x e → LastPiece x e a → t ≡ takes lettered (part_of x a e) → t ≡ false
      → (a ≡ 0 → ⊥) → Sought lettered x (a - 1)
  sought_more t s l et f z =
      let n : a ≡ suc (a - 1) = omega arith in
      let before : pieces_before x a ≡ split cuts (take (a - 1) x) = ap (pieces_before x) n in
      record {
        within = omega (arith, s.within, l.forward);
        whole = one_piece s l ∙ rw (sym et ∙ f, before) refl;
      }

-- ---- a test of some or of every byte, from i on

module _ (p : ℕ → Bool) (s : List ℕ) where
  pub some_here : (i : ℕ) (t : Bool) → any p s ≡ any p (drop i s) → i < length s → t ≡ p (get_or s i 0) → t ≡ true
      → true ≡ any p s
  some_here i t w h et f = sym (w ∙ ap (any p) (drop-cons s i 0 h) ∙ rw (sym et ∙ f) refl)

  pub some_more : (i : ℕ) (t : Bool) → any p s ≡ any p (drop i s) → i < length s → t ≡ p (get_or s i 0) → t ≡ false
      → any p s ≡ any p (drop (i + 1) s)
  some_more i t w h et f = w ∙ ap (any p) (drop-cons s i 0 h) ∙ rw (sym et ∙ f, add-one i) refl

  pub some_none : (i : ℕ) → any p s ≡ any p (drop i s) → length s ≤ i → false ≡ any p s
  some_none i w h = sym (w ∙ rw (drop_of_length-le s h) refl)

  module _ (a : ℕ) where
    pub every_not : (i : ℕ) (t : Bool) → all p (drop a s) ≡ all p (drop i s) → i < length s → t ≡ p (get_or s i 0)
        → not t ≡ true → false ≡ all p (drop a s)
    every_not i t w h et f = sym (w ∙ ap (all p) (drop-cons s i 0 h) ∙ rw (sym et ∙ not_true t f) refl)

    pub every_more : (i : ℕ) (t : Bool) → all p (drop a s) ≡ all p (drop i s) → i < length s → t ≡ p (get_or s i 0)
        → not t ≡ false → all p (drop a s) ≡ all p (drop (i + 1) s)
    every_more i t w h et f =
        w ∙ ap (all p) (drop-cons s i 0 h) ∙ rw (sym et ∙ not-false t f, add-one i) refl

    pub every_all : (i : ℕ) → all p (drop a s) ≡ all p (drop i s) → length s ≤ i → true ≡ all p (drop a s)
    every_all i w h = sym (w ∙ rw (drop_of_length-le s h) refl)

-- ---- a piece that is taken

pub empty_not_taken : (lettered : Bool) (p : List ℕ) → length p ≡ 0 → false ≡ takes lettered p
empty_not_taken true [] e = refl
empty_not_taken false [] e = refl
empty_not_taken lettered (b ∷ p) e = absurd (omega arith)

pub lettered_taken : (lettered : Bool) (p : List ℕ) (t : Bool) → (length p ≡ 0 → ⊥) → lettered ≡ true
    → t ≡ any alphanumeric p → t ≡ takes lettered p
lettered_taken lettered [] t h e g = absurd (h refl)
lettered_taken true (b ∷ p) t h e g = g
lettered_taken false (b ∷ p) t h e g = false_true e

pub any_taken : (lettered : Bool) (p : List ℕ) → (length p ≡ 0 → ⊥) → lettered ≡ false → true ≡ takes lettered p
any_taken lettered [] h e = absurd (h refl)
any_taken true (b ∷ p) h e = false_true (sym e)
any_taken false (b ∷ p) h e = refl

-- ---- a product code

code_parts : (p : List ℕ) → 0 < length p
    → is_code p
    ≡ leb 4 (length p - 1) && leb (length p - 1) 7 && eqb (upper_byte (get_or p 0 0)) 67 && all digit (drop 1 p)
code_parts [] h = absurd (omega arith)
code_parts (b ∷ p) h =
    let n : length p ≡ suc (length p) - 1 = omega arith in
    ap (λ k. leb 4 k && leb k 7 && eqb (upper_byte b) 67 && all digit p) n

pub code_short : (p : List ℕ) → length p < 5 → false ≡ is_code p
code_short [] h = refl
code_short (b ∷ p) h = rw (lt-leb 4 (length p) (omega arith)) refl

pub code_long : (p : List ℕ) → 8 < length p → false ≡ is_code p
code_long p h =
    sym (code_parts p (omega arith)
    ∙ rw (le-leb 4 (length p - 1) (omega arith), lt-leb (length p - 1) 7 (omega arith)) refl)

pub code_other : (p : List ℕ) (c : ℕ) → 5 ≤ length p → length p ≤ 8 → c ≡ upper_byte (get_or p 0 0) → (c ≡ 67 → ⊥)
    → false ≡ is_code p
code_other p c h k e d =
    sym (code_parts p (omega arith)
    ∙ rw (le-leb 4 (length p - 1) (omega arith), le-leb (length p - 1) 7 (omega arith), ← e, ne_eqb c 67 d) refl)

pub code_digits : (p : List ℕ) (c : ℕ) (t : Bool) → 5 ≤ length p → length p ≤ 8 → c ≡ upper_byte (get_or p 0 0) → c ≡ 67
    → t ≡ all digit (drop 1 p) → t ≡ is_code p
code_digits p c t h k e f g =
    sym (code_parts p (omega arith)
    ∙ rw (le-leb 4 (length p - 1) (omega arith), le-leb (length p - 1) 7 (omega arith), ← e, eq-eqb c 67 f) (sym g))

-- ---- the letters and digits from a on

pub record Lettered (x : List ℕ) (a e : ℕ) : Type 0 where
  pub forward : a ≤ e
  pub within : e ≤ length x
  pub plain : all alphanumeric (part_of x a e) ≡ true

pub lettered_start : (x : List ℕ) (a : ℕ) → a ≤ length x → Lettered x a a
lettered_start x a h = record { forward = omega arith; within = h; plain = rw (no_part x a) refl }

-- a part that ends one byte later
part_snoc : (x : List ℕ) (a e : ℕ) → a ≤ e → e < length x → part_of x a (e + 1) ≡ part_of x a e ++ (get_or x e 0 ∷ [])
part_snoc x a e h k =
    let n : e + 1 - a ≡ suc (e - a) = omega arith in
    let m : a + (e - a) ≡ e = omega arith in
    ap (λ j. take j (drop a x)) n ∙ take-suc (drop a x) (e - a) 0 (omega (arith, length-drop a x))
    ∙ ap (λ b. part_of x a e ++ (b ∷ [])) (get_or-drop a x (e - a) 0 ∙ ap (λ j. get_or x j 0) m)

all_snoc : (p : ℕ → Bool) (l : List ℕ) (b : ℕ) → all p l ≡ true → p b ≡ true → all p (l ++ (b ∷ [])) ≡ true
all_snoc p [] b e f = rw f refl
all_snoc p (c ∷ l) b e f = let h = and_true {x = p c} e in rw (h.0, all_snoc p l b h.1 f) refl

pub lettered_more : (x : List ℕ) (a e : ℕ) (t : Bool) → Lettered x a e → e < length x → t ≡ alphanumeric (get_or x e 0)
    → not t ≡ false → Lettered x a (e + 1)
lettered_more x a e t l h et f = record {
  forward = omega (arith, l.forward);
  within = omega arith;
  plain = rw (part_snoc x a e l.forward h)
      (all_snoc alphanumeric (part_of x a e) (get_or x e 0) l.plain (sym et ∙ not-false t f));
}

not_not : (x : Bool) → x ≡ true → not (not x) ≡ true
not_not x e = rw e refl

unbroken : (l : List ℕ) → all alphanumeric l ≡ true → all (λ b. not (breaks b)) l ≡ true
unbroken [] e = refl
unbroken (b ∷ l) e = let h = and_true e in rw (not_not (alphanumeric b) h.0, unbroken l h.1) refl

-- what stands from a on: the part up to e, and the rest
from_on : (x : List ℕ) (a e : ℕ) → a ≤ e → drop a x ≡ part_of x a e ++ drop e x
from_on x a e h =
    let n : a + (e - a) ≡ e = omega arith in
    sym (take-append-drop (e - a) (drop a x))
    ∙ ap (λ l. part_of x a e ++ l) (drop-drop (e - a) a x ∙ ap (λ k. drop k x) n)

pub run_broken : (x : List ℕ) (a e : ℕ) (t : Bool) → Lettered x a e → e < length x → t ≡ alphanumeric (get_or x e 0)
    → not t ≡ true → FirstPiece x a e
run_broken x a e t l h et f = record {
  forward = l.forward;
  within = l.within;
  plain = l.plain;
  pieces =
      ap (split breaks) (from_on x a e l.forward ∙ ap (λ y. part_of x a e ++ y) (drop-cons x e 0 h))
      ∙ split_cut breaks (part_of x a e) (get_or x e 0) (drop (suc e) x) (ap not (sym et) ∙ f)
      ∙ rw (split_plain breaks (part_of x a e) (unbroken (part_of x a e) l.plain), lt-ltb e (length x) h) refl;
}

pub run_whole : (x : List ℕ) (a e : ℕ) → Lettered x a e → length x ≤ e → FirstPiece x a e
run_whole x a e l h = record {
  forward = l.forward;
  within = l.within;
  plain = l.plain;
  pieces =
      ap (split breaks)
      (from_on x a e l.forward ∙ ap (λ y. part_of x a e ++ y) (drop_of_length-le x h) ∙ append-nil (part_of x a e))
      ∙ split_plain breaks (part_of x a e) (unbroken (part_of x a e) l.plain) ∙ rw (le-ltb e (length x) h) refl;
}

-- ---- the first code: letters and digits have nothing to trim

no_space : (b : ℕ) → alphanumeric b ≡ true → eqb b 32 ≡ false
no_space b e = go (eqb b 32) refl
  where
    go : (t : Bool) → eqb b 32 ≡ t → t ≡ false
    go true g = sym (rw (eqb-true b 32 g) at e)
    go false g = refl

trim_end_plain : (l : List ℕ) → all alphanumeric l ≡ true → trim_end l ≡ l
trim_end_plain [] e = refl
trim_end_plain (b ∷ l) e = let h = and_true e in rw (no_space b h.0, trim_end_plain l h.1) refl

pub trim_plain : (l : List ℕ) → all alphanumeric l ≡ true → trim l ≡ l
trim_plain [] e = refl
trim_plain (b ∷ l) e = let h = and_true e in rw (no_space b h.0) (trim_end_plain (b ∷ l) e)

pub record Uncoded (x : List ℕ) (a : ℕ) : Type 0 where
  pub within : a ≤ length x
  pub whole : product_code_token x ≡ first_code (split breaks (drop a x))

pub uncoded_start : (x : List ℕ) → Uncoded x 0
uncoded_start x = record { within = omega arith; whole = refl }

module _ (x : List ℕ) (a e : ℕ) (t : Bool) where
  one_run : Uncoded x a → FirstPiece x a e
      → product_code_token x
      ≡ cond (is_code (part_of x a e)) (some (upper (part_of x a e))) (first_code (pieces_after x e))
  one_run u f =
      u.whole ∙ ap first_code f.pieces
      ∙ ap (λ p. cond (is_code p) (some (upper p)) (first_code (pieces_after x e))) (trim_plain (part_of x a e) f.plain)

  pub code_found : Uncoded x a → FirstPiece x a e → t ≡ is_code (part_of x a e) → t ≡ true → Coded x (Some (a, e))
  code_found u f et g = record {
    is = one_run u f ∙ rw (sym et ∙ g) refl;
    inside = (f.forward, f.within);
  }

  pub no_code : Uncoded x a → FirstPiece x a e → t ≡ is_code (part_of x a e) → t ≡ false → length x ≤ e
      → Coded x None
  no_code u f et g h = record {
    is = one_run u f ∙ rw (sym et ∙ g, le-ltb e (length x) h) refl;
    inside = tt;
  }

  pub uncoded_more : Uncoded x a → FirstPiece x a e → t ≡ is_code (part_of x a e) → t ≡ false → e < length x
      → Uncoded x (e + 1)
  uncoded_more u f et g h = record {
    within = omega arith;
    whole = one_run u f ∙ rw (sym et ∙ g, lt-ltb e (length x) h, add-one e) refl;
  }
