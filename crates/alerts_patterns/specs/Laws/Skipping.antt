-- Law. A search that skips: by two bytes of a pattern, 64 places at a time.
use Rattle.std.specs.Prelude.{◌≡◌, refl, List, [], ◌∷◌, ◌++◌, Bool, true, false, ◌&&◌, ◌||◌, ℕ, zero, suc, ◌+◌, ◌-◌, ◌≤◌, ◌<◌, leb, eqb, length, get_or, take, drop}
use Rattle.std.proofs.Common.{sym, ap, ◌∙◌, append-nil, add-one, arith, length-append, length-drop, drop_of_length-le, drop-cons, get_or-drop, get_or-take, length-take-le, eq-eqb, ne_eqb, eqb-true, leb-true, leb-false, le-leb}
use Rattle.std.proofs.lemmas.Bool.{eqb-false, lt-leb}
use Rattle.basics.specs.Laws.Booleans.{and_true, or_assoc, or_false, false_true}
use Rattle.alerts.specs.Text.{begins}
use Rattle.alerts.proofs.Laws.Text.{begins_true}
use Rattle.alerts_patterns.specs.Promises.Occurrence.{Skips, SkipsName, Seeks, SeeksTo, between}
use Rattle.alerts_patterns.specs.Promises.Occurrence.{any_pair}
use Rattle.alerts_patterns.specs.Laws.Searching.{Unfound, unfound_start, unfound_more, begins_joined}

-- bytes told apart without a branch
by_zero : (r : ℕ) (t : Bool) → (r ≡ 0 → t ≡ true) → (t ≡ true → r ≡ 0) → eqb r 0 ≡ t
by_zero r true h g = eq-eqb r 0 (g refl)
by_zero r false h g = ne_eqb r 0 (λ e. false_true (h e))

module _ (x a : ℕ) where
  pub apart_below : x < a → eqb (a - x) 0 ≡ eqb x a
  apart_below h = by_zero (a - x) (eqb x a) (λ e. absurd (omega arith)) (λ e. absurd (omega (arith, eqb-true x a e)))

  pub apart_above : a ≤ x → eqb (x - a) 0 ≡ eqb x a
  apart_above h = by_zero (x - a) (eqb x a) (λ e. eq-eqb x a (omega arith)) (λ e. omega (arith, eqb-true x a e))

  pub greater_second : x < a → eqb a 0 ≡ eqb x 0 && eqb a 0
  greater_second h =
      by_zero a (eqb x 0 && eqb a 0) (λ e. absurd (omega arith)) (λ e. eqb-true a 0 (and_true {x = eqb x 0} e).1)

  pub greater_first : a ≤ x → eqb x 0 ≡ eqb x 0 && eqb a 0
  greater_first h =
      by_zero x (eqb x 0 && eqb a 0)
      (λ e. let z : a ≡ 0 = omega arith in rw (eq-eqb x 0 e, eq-eqb a 0 z) refl) (λ e. eqb-true x 0 (and_true e).0)

  pub lesser_second : a < x → eqb a 0 ≡ eqb x 0 || eqb a 0
  lesser_second h = sym (rw (ne_eqb x 0 (λ e. omega arith)) refl)

  pub lesser_first : x ≤ a → eqb x 0 ≡ eqb x 0 || eqb a 0
  lesser_first h = go (eqb a 0) refl
    where
      go : (t : Bool) → eqb a 0 ≡ t → eqb x 0 ≡ eqb x 0 || t
      go true e = let z : x ≡ 0 = omega (arith, eqb-true a 0 e) in rw (eq-eqb x 0 z) refl
      go false e = sym (or_false (eqb x 0))

module _ (x lo hi : ℕ) where
  pub outside_below : x < lo → eqb (lo - x) 0 ≡ between lo hi x
  outside_below h = ne_eqb (lo - x) 0 (λ e. omega (arith, e)) ∙ sym (rw (lt-leb lo x h) refl)

  pub outside_above : lo ≤ x → hi < x → eqb (x - hi) 0 ≡ between lo hi x
  outside_above l h = ne_eqb (x - hi) 0 (λ e. omega (arith, e)) ∙ sym (rw (le-leb lo x l, lt-leb x hi h) refl)

  pub outside_not : lo ≤ x → x ≤ hi → eqb 0 0 ≡ between lo hi x
  outside_not l h = sym (rw (le-leb lo x l, le-leb x hi h) refl)

pub pair_is : (p q a lo hi u v r : ℕ) → eqb u 0 ≡ eqb p a → eqb v 0 ≡ between lo hi q
    → eqb r 0 ≡ eqb u 0 && eqb v 0 → eqb r 0 ≡ eqb p a && between lo hi q
pair_is p q a lo hi u v r eu ev er = er ∙ rw (eu, ev) refl

-- the places from k on are still to be looked at
pub record Pairing (a lo hi : ℕ) (x y : List ℕ) (least k : ℕ) : Type 0 where
  pub within : k ≤ length x
  pub whole : any_pair a lo hi x y ≡ eqb least 0 || any_pair a lo hi (drop k x) (drop k y)

pub pairing_start : (a lo hi : ℕ) (x y : List ℕ) → Pairing a lo hi x y 255 0
pairing_start a lo hi x y = record { within = omega arith; whole = refl }

module _ (a lo hi : ℕ) (x y : List ℕ) (least k : ℕ) (P : Pairing a lo hi x y least k) where
  pub pairing_more : (w r : ℕ) → k < length x → length x ≡ length y
      → eqb w 0 ≡ eqb (get_or x k 0) a && between lo hi (get_or y k 0) → eqb r 0 ≡ eqb least 0 || eqb w 0
      → Pairing a lo hi x y r (k + 1)
  pairing_more w r h l ew er = record {
    within = omega arith;
    whole =
        P.whole ∙ ap (λ t. eqb least 0 || t) one
        ∙ sym (or_assoc (eqb least 0) (eqb (get_or x k 0) a && between lo hi (get_or y k 0))
        (any_pair a lo hi (drop (k + 1) x) (drop (k + 1) y)))
        ∙ ap (λ t. eqb least 0 || t || any_pair a lo hi (drop (k + 1) x) (drop (k + 1) y))
        (sym ew)
        ∙ ap (λ t. t || any_pair a lo hi (drop (k + 1) x) (drop (k + 1) y)) (sym er);
  }
    where
      one : any_pair a lo hi (drop k x) (drop k y)
          ≡ eqb (get_or x k 0) a && between lo hi (get_or y k 0) || any_pair a lo hi (drop (k + 1) x) (drop (k + 1) y)
      one = let g : k < length y = omega (arith, l) in rw (add-one k, drop-cons x k 0 h, drop-cons y k 0 g) refl

  pub pairing_end : length x ≤ k → eqb least 0 ≡ any_pair a lo hi x y
  pairing_end h =
      sym
      (P.whole ∙ ap (λ l. eqb least 0 || any_pair a lo hi l (drop k y)) (drop_of_length-le x h)
      ∙ or_false (eqb least 0))

-- seeking, place by place
module _ (a d lo hi : ℕ) (s : List ℕ) (i : ℕ) where
  pub seeks_none : i ≤ length s → Seeks a d lo hi s i i
  seeks_none h = record { forward = omega arith; within = h; none_here = λ k g l. absurd (omega arith) }

  module _ (k : ℕ) (S : Seeks a d lo hi s i k) where
    seeks_more : (w : ℕ) → k + d < length s → eqb w 0 ≡ eqb (get_or s k 0) a && between lo hi (get_or s (k + d) 0)
        → (w ≡ 0 → ⊥) → Seeks a d lo hi s i (k + 1)
    seeks_more w h ew g = record {
      forward = omega (arith, S.forward);
      within = omega arith;
      none_here = λ j m l z x y u. go j m l z x y u (eqb j k) refl;
    }
      where
        differs : get_or s k 0 ≡ a → lo ≤ get_or s (k + d) 0 → get_or s (k + d) 0 ≤ hi → ⊥
        differs x y u =
            g (eqb-true w 0 (ew
            ∙ rw (eq-eqb (get_or s k 0) a x, le-leb lo (get_or s (k + d) 0) y, le-leb (get_or s (k + d) 0) hi u) refl))

        go : (j : ℕ) → i ≤ j → j < k + 1 → j + d < length s → get_or s j 0 ≡ a → lo ≤ get_or s (j + d) 0
            → get_or s (j + d) 0 ≤ hi → (t : Bool) → eqb j k ≡ t → ⊥
        go j m l z x y u true e =
            let n : j ≡ k = eqb-true j k e in
            differs (ap (λ n. get_or s n 0) (sym n) ∙ x) (rw n at y) (rw n at u)
        go j m l z x y u false e = S.none_here j m (omega (arith, eqb-false j k e)) z x y u

    pub seeks_then : (r : ℕ) → Seeks a d lo hi s k r → Seeks a d lo hi s i r
    seeks_then r T = record {
      forward = omega (arith, S.forward, T.forward);
      within = T.within;
      none_here = λ j m l z x y u. go j m l z x y u (leb k j) refl;
    }
      where
        go : (j : ℕ) → i ≤ j → j < r → j + d < length s → get_or s j 0 ≡ a → lo ≤ get_or s (j + d) 0
            → get_or s (j + d) 0 ≤ hi → (t : Bool) → leb k j ≡ t → ⊥
        go j m l z x y u true e = T.none_here j (leb-true k j e) l z x y u
        go j m l z x y u false e = S.none_here j m (let w = leb-false k j e in omega arith) z x y u

-- up to e
module _ (a d lo hi : ℕ) (s : List ℕ) (i e : ℕ) where
  pub to_start : i ≤ e → e + d ≤ length s → SeeksTo a d lo hi s i e i
  to_start h g = record { seeks = seeks_none a d lo hi s i (omega arith); up = h }

  pub to_more : (k w : ℕ) → SeeksTo a d lo hi s i e k → k < e → e + d ≤ length s
      → eqb w 0 ≡ eqb (get_or s k 0) a && between lo hi (get_or s (k + d) 0) → (w ≡ 0 → ⊥)
      → SeeksTo a d lo hi s i e (k + 1)
  to_more k w S l g ew n =
      record { seeks = seeks_more a d lo hi s i k S.seeks w (omega arith) ew n; up = omega arith }

  pub far_then : (k r : ℕ) → SeeksTo a d lo hi s i e k → SeeksTo a d lo hi s k e r → Seeks a d lo hi s i r
  far_then k r S T = seeks_then a d lo hi s i k S.seeks r T.seeks

  pub near_then : (k r : ℕ) → SeeksTo a d lo hi s i e k → Seeks a d lo hi s k r → Seeks a d lo hi s i r
  near_then k r S T = seeks_then a d lo hi s i k S.seeks r T

-- 64 places at a time
no_pair : (a lo hi : ℕ) (x y : List ℕ) (m : ℕ) → any_pair a lo hi x y ≡ false → m < length x → m < length y
    → get_or x m 0 ≡ a → lo ≤ get_or y m 0 → get_or y m 0 ≤ hi → ⊥
no_pair a lo hi [] y m e h g u v w = omega arith
no_pair a lo hi (p ∷ x) [] m e h g u v w = omega arith
no_pair a lo hi (p ∷ x) (q ∷ y) zero e h g u v w =
    false_true (sym e ∙ rw (eq-eqb p a u, le-leb lo q v, le-leb q hi w) refl)
no_pair a lo hi (p ∷ x) (q ∷ y) (suc m) e h g u v w =
    no_pair a lo hi x y m (rest (eqb p a && between lo hi q) (any_pair a lo hi x y) e) (omega arith) (omega arith) u v w
  where
    rest : (t r : Bool) → t || r ≡ false → r ≡ false
    rest true r e = false_true (sym e)
    rest false r e = e

pub far_more : (a d lo hi : ℕ) (s : List ℕ) (i k e : ℕ) (t : Bool) → SeeksTo a d lo hi s i e k → 64 ≤ e - k
    → e + d ≤ length s
    → t ≡ any_pair a lo hi (take (k + 64 - k) (drop k s)) (take (k + d + 64 - (k + d)) (drop (k + d) s)) → t ≡ false
    → SeeksTo a d lo hi s i e (k + 64)
far_more a d lo hi s i k e t S h g x y =
    record { seeks = seeks_then a d lo hi s i k S.seeks (k + 64) block; up = omega arith }
  where
    clear : any_pair a lo hi (take 64 (drop k s)) (take 64 (drop (k + d) s)) ≡ false
    clear =
        let n : k + 64 - k ≡ 64 = omega arith in
        let m : k + d + 64 - (k + d) ≡ 64 = omega arith in
        rw (n, m) at (sym x ∙ y)

    long : (n : ℕ) → n + 64 ≤ length s → length (take 64 (drop n s)) ≡ 64
    long n l = length-take-le 64 (drop n s) (omega (arith, length-drop n s))

    at : (n m : ℕ) → m < 64 → get_or (take 64 (drop n s)) m 0 ≡ get_or s (n + m) 0
    at n m l = rw (get_or-take, get_or-drop)

    block : Seeks a d lo hi s k (k + 64)
    block = record {
      forward = omega arith;
      within = omega arith;
      none_here = λ j m l z u v w.
          let o : k + (j - k) ≡ j = omega arith in
          let p : k + d + (j - k) ≡ j + d = omega arith in
          no_pair a lo hi (take 64 (drop k s)) (take 64 (drop (k + d) s)) (j - k) clear
          (omega (arith, long k (omega arith))) (omega (arith, long (k + d) (omega arith)))
          (at k (j - k) (omega arith) ∙ ap (λ n. get_or s n 0) o ∙ u)
          (omega (arith, at (k + d) (j - k) (omega arith) ∙ ap (λ n. get_or s n 0) p))
          (omega (arith, at (k + d) (j - k) (omega arith) ∙ ap (λ n. get_or s n 0) p));
    }

pub far_alike : (s : List ℕ) (d k e : ℕ) → 64 ≤ e - k → e + d ≤ length s
    → length (take (k + 64 - k) (drop k s)) ≡ length (take (k + d + 64 - (k + d)) (drop (k + d) s))
far_alike s d k e h g =
    length-take-le (k + 64 - k) (drop k s) (omega (arith, length-drop k s))
    ∙ same
    ∙ sym (length-take-le (k + d + 64 - (k + d)) (drop (k + d) s) (omega (arith, length-drop (k + d) s)))
  where
    same : k + 64 - k ≡ k + d + 64 - (k + d)
    same = omega arith

-- a pattern stands only where two of its bytes do
begun : (p t : List ℕ) (i : ℕ) → i < length p → begins p t ≡ true → get_or t i 0 ≡ get_or p i 0
begun [] t i h e = absurd (omega arith)
begun (a ∷ p) [] i h e = false_true e
begun (a ∷ p) (b ∷ t) zero h e = sym (eqb-true a b (and_true e).0)
begun (a ∷ p) (b ∷ t) (suc i) h e = begun p t i (omega arith) (and_true {x = eqb a b} e).1

first_byte : (p s : List ℕ) (k : ℕ) → 0 < length p → begins p (drop k s) ≡ true → get_or s k 0 ≡ get_or p 0 0
first_byte p s k h x =
    let e : k + 0 ≡ k = omega arith in
    ap (λ n. get_or s n 0) (sym e) ∙ sym (get_or-drop k s 0 0) ∙ begun p (drop k s) 0 h x

pub seeks_skips : (a d b : ℕ) (p s : List ℕ) (i r : ℕ) → Seeks a d b b s i r → d < length p → get_or p 0 0 ≡ a
    → get_or p d 0 ≡ b → Skips p s i r
seeks_skips a d b p s i r S h ea eb = record {
  forward = S.forward;
  within = S.within;
  none_here = λ k m l. go k m l (begins p (drop k s)) refl;
}
  where
    go : (k : ℕ) → i ≤ k → k < r → (t : Bool) → begins p (drop k s) ≡ t → t ≡ false
    go k m l false x = refl
    go k m l true x =
        absurd (S.none_here k m l room (first_byte p s k (omega arith) x ∙ ea) (omega (arith, other))
        (omega (arith, other)))
      where
        other : get_or s (k + d) 0 ≡ b
        other = sym (get_or-drop k s d 0) ∙ begun p (drop k s) d h x ∙ eb

        room : k + d < length s
        room =
            let (y, e) = begins_true p (drop k s) x in
            omega (arith, length-drop k s, length-append p y, ap length e)

front_false : (b q t : List ℕ) → begins b t ≡ false → begins (b ++ q) t ≡ false
front_false b q t e = begins_joined b q t ∙ rw e refl

-- by the first byte and another
module _ (p s : List ℕ) (i : ℕ) where
  pub skips_none : i ≤ length s → Skips p s i i
  skips_none h = record { forward = omega arith; within = h; none_here = λ k g l. absurd (omega arith) }

  pub skips_text : (d r : ℕ) → d < length p → Seeks (get_or p 0 0) d (get_or p d 0) (get_or p d 0) s i r → Skips p s i r
  skips_text d r h S = seeks_skips (get_or p 0 0) d (get_or p d 0) p s i r S h refl refl

-- by the first bytes of two parts
module _ (n : List ℕ) where
  first_of : (b : List ℕ) → (length b ≡ 0 → ⊥) → get_or (b ++ n) 0 0 ≡ get_or b 0 0
  first_of [] h = absurd (h refl)
  first_of (a ∷ b) h = refl

  second_of : (b : List ℕ) → get_or (b ++ n) (length b) 0 ≡ get_or n 0 0
  second_of [] = refl
  second_of (a ∷ b) = second_of b

module _ (b n s : List ℕ) (i : ℕ) where
  nothing : (l : List ℕ) → length l ≡ 0 → l ≡ []
  nothing [] h = refl
  nothing (a ∷ l) h = absurd (omega (arith, h))

  pub skips_name : (r : ℕ) → length b ≡ 0 → Skips n s i r → Skips (b ++ n) s i r
  skips_name r h S = rw (nothing b h) S

  pub skips_before : (r : ℕ) → length n ≡ 0 → Skips b s i r → Skips (b ++ n) s i r
  skips_before r h S = rw (nothing n h, append-nil b) S

  pub skips_both : (r : ℕ) → (length b ≡ 0 → ⊥) → (length n ≡ 0 → ⊥)
      → Seeks (get_or b 0 0) (length b) (get_or n 0 0) (get_or n 0 0) s i r → Skips (b ++ n) s i r
  skips_both r h g S =
      seeks_skips (get_or b 0 0) (length b) (get_or n 0 0) (b ++ n) s i r S (omega (arith, length-append b n))
      (first_of n b h) (second_of n b)

-- by the first bytes of the first part and the last
module _ (b n a s : List ℕ) (i r : ℕ) where
  pub skips_front : Skips (b ++ n) s i r → Skips (b ++ n ++ a) s i r
  skips_front S = record {
    forward = S.forward;
    within = S.within;
    none_here = λ k g l. front_false (b ++ n) a (drop k s) (S.none_here k g l);
  }

  pub skips_ends : (length b ≡ 0 → ⊥) → (length a ≡ 0 → ⊥)
      → Seeks (get_or b 0 0) (length b + length n) (get_or a 0 0) (get_or a 0 0) s i r → Skips (b ++ n ++ a) s i r
  skips_ends h g S =
      let l : length (b ++ n) ≡ length b + length n = length-append b n in
      seeks_skips (get_or b 0 0) (length b + length n) (get_or a 0 0) (b ++ n ++ a) s i r S
      (omega (arith, l, length-append (b ++ n) a))
      (first_of a (b ++ n) (λ z. h (omega (arith, l))) ∙ first_of n b h)
      (ap (λ k. get_or (b ++ n ++ a) k 0) (sym l) ∙ second_of a (b ++ n))

-- by the first byte of a part and a range for the one behind it
default : (l : List ℕ) (i : ℕ) → i < length l → get_or l i 0 ≡ get_or l i 255
default [] i h = absurd (omega arith)
default (a ∷ l) zero h = refl
default (a ∷ l) (suc i) h = default l i (omega arith)

module _ (b f s : List ℕ) (i : ℕ) where
  pub name_any : (r : ℕ) → Skips b s i r → SkipsName b f s i r
  name_any r S = record {
    forward = S.forward;
    within = S.within;
    none_here = λ k m l t w x y. false_true (sym (S.none_here k m l) ∙ t);
  }

  pub name_nothing : i ≤ length s → SkipsName b f s i i
  name_nothing h = record { forward = omega arith; within = h; none_here = λ k m l. absurd (omega arith) }

  pub name_alone : (r : ℕ) → 2 ≤ length f → length b ≡ 0 → get_or f 0 0 ≡ get_or f 1 0
      → Seeks (get_or f 0 0) 0 (get_or f 0 0) (get_or f 1 0) s i r → SkipsName b f s i r
  name_alone r n z e S = record {
    forward = S.forward;
    within = S.within;
    none_here = λ k m l t w x y.
        let o : k + length b ≡ k = omega arith in
        let p : k + 0 ≡ k = omega arith in
        let u = ap (λ n. get_or s n 0) o in
        let v = ap (λ n. get_or s n 0) p in
        let d = default f 1 n in
        S.none_here k m l (omega arith) (omega (arith, u, d)) (omega (arith, u, v)) (omega (arith, u, v, d));
  }

  pub name_ranged : (r : ℕ) → 2 ≤ length f → (length b ≡ 0 → ⊥)
      → Seeks (get_or b 0 0) (length b) (get_or f 0 0) (get_or f 1 0) s i r → SkipsName b f s i r
  name_ranged r n z S = record {
    forward = S.forward;
    within = S.within;
    none_here = λ k m l t w x y.
        let h : 0 < length b = some (length b) z in
        S.none_here k m l w (first_byte b s k h t) x (omega (arith, default f 1 n));
  }
    where
      some : (n : ℕ) → (n ≡ 0 → ⊥) → 0 < n
      some zero g = absurd (g refl)
      some (suc n) g = omega arith

-- a first place is none of those skipped
module _ (p s : List ℕ) where
  over : (i r : ℕ) → Skips p s i r → Unfound p s i → (m : ℕ) → i + m ≤ r → Unfound p s (i + m)
  over i r S U zero h = let e : i + 0 ≡ i = omega arith in rw e U
  over i r S U (suc m) h =
      let e : i + suc m ≡ i + m + 1 = omega arith in
      rw e
      (unfound_more p s (i + m) false (over i r S U m (omega arith)) (omega (arith, S.within))
      (sym (S.none_here (i + m) (omega arith) (omega arith))) refl)

  unfound_over : (i r : ℕ) → Skips p s i r → Unfound p s i → Unfound p s r
  unfound_over i r S U =
      let e : i + (r - i) ≡ r = omega (arith, S.forward) in
      rw e at (over i r S U (r - i) (omega (arith, S.forward)))

  pub unfound_first : (r : ℕ) → Skips p s 0 r → Unfound p s r
  unfound_first r S = unfound_over 0 r S (unfound_start p s)

  pub unfound_next : (i r : ℕ) (t : Bool) → Unfound p s i → i < length s → t ≡ begins p (drop i s) → t ≡ false
      → Skips p s (i + 1) r → Unfound p s r
  unfound_next i r t U g e h S = unfound_over (i + 1) r S (unfound_more p s i t U g e h)
