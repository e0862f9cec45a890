-- Law. A table of patterns, piece by piece: where a piece ends, what is filled in, what is still to be tried.
use Rattle.std.specs.Prelude.{◌≡◌, refl, List, [], ◌∷◌, ◌++◌, Bool, true, false, cond, ◌||◌, ℕ, suc, ◌+◌, ◌-◌, ◌≤◌, ◌<◌, eqb, length, get_or, take, drop, Option}
use Rattle.std.proofs.Common.{sym, ap, ◌∙◌, append-nil, add-one, arith, drop_of_length-le, length-drop, drop-cons, drop-drop, eq-eqb, ne_eqb}
use Rattle.std.proofs.Math.Seq.{take-length}
use Rattle.basics.specs.Lists.{any}
use Rattle.alerts.specs.Text.{find, onto}
use Rattle.alerts_patterns.specs.Promises.Occurrence.{found_of}
use Rattle.alerts_patterns.specs.Promises.Tables.{up_to, name_filled, pieces}
use Rattle.basics.specs.Laws.Booleans.{or_false}

-- the first c from i on is the first from k on
abbrev pub First : ℕ → List ℕ → ℕ → ℕ → Type 0
First c s i k = i + up_to c (drop i s) ≡ k + up_to c (drop k s)

module _ (c : ℕ) (s : List ℕ) (i k : ℕ) (f : First c s i k) where
  pub first_here : k < length s → get_or s k 0 ≡ c → k ≡ i + up_to c (drop i s)
  first_here h e = sym (f ∙ rw (drop-cons s k 0, eq-eqb (get_or s k 0) c e) (omega arith))

  pub first_more : k < length s → (get_or s k 0 ≡ c → ⊥) → First c s i (k + 1)
  first_more h e = f ∙ rw (add-one k, drop-cons s k 0, ne_eqb (get_or s k 0) c e) (omega arith)

  pub first_end : length s ≤ k → k ≡ i + up_to c (drop i s)
  first_end h = sym (f ∙ rw (drop_of_length-le s h) (omega arith))

pub up_to_within : (c : ℕ) (s : List ℕ) → up_to c s ≤ length s
up_to_within c [] = omega arith
up_to_within c (b ∷ s) = go (eqb b c) (up_to_within c s)
  where
    go : (t : Bool) → up_to c s ≤ length s → cond t 0 (suc (up_to c s)) ≤ suc (length s)
    go true ih = omega arith
    go false ih = omega arith

-- a pattern with no place for the name, and one with one
pub filled_none : (name p : List ℕ) → length p ≤ up_to 0x23 p → name_filled name p ≡ p
filled_none name [] h = refl
filled_none name (b ∷ p) h = go (eqb b 0x23) h (filled_none name p)
  where
    go : (t : Bool) → suc (length p) ≤ cond t 0 (suc (up_to 0x23 p))
        → (length p ≤ up_to 0x23 p → name_filled name p ≡ p)
        → cond t (name ++ p) (b ∷ name_filled name p) ≡ b ∷ p
    go true h ih = absurd (omega arith)
    go false h ih = ap (λ l. b ∷ l) (ih (omega arith))

pub filled_here : (name p : List ℕ) → up_to 0x23 p < length p
    → name_filled name p ≡ take (up_to 0x23 p) p ++ name ++ drop (suc (up_to 0x23 p)) p
filled_here name [] h = absurd (omega arith)
filled_here name (b ∷ p) h = go (eqb b 0x23) h (filled_here name p)
  where
    go : (t : Bool) → cond t 0 (suc (up_to 0x23 p)) < suc (length p)
        → (up_to 0x23 p < length p → name_filled name p ≡ take (up_to 0x23 p) p ++ name ++ drop (suc (up_to 0x23 p)) p)
        → cond t (name ++ p) (b ∷ name_filled name p)
        ≡ take (cond t 0 (suc (up_to 0x23 p))) (b ∷ p) ++ name ++ drop (suc (cond t 0 (suc (up_to 0x23 p)))) (b ∷ p)
    go true h ih = refl
    go false h ih = ap (λ l. b ∷ l) (ih (omega arith))

-- a part that goes to the end
pub tail_whole : (i : ℕ) (s : List ℕ) → take (length s - i) (drop i s) ≡ drop i s
tail_whole i s = ap (λ n. take n (drop i s)) (sym (length-drop i s)) ∙ take-length (drop i s)

pub unfilled : (s name p : List ℕ) (h : ℕ) (r : Option ℕ) → h ≡ 0 + up_to 0x23 (drop 0 p) → length p ≤ h
    → r ≡ found_of (find (p ++ [] ++ []) s) → r ≡ found_of (find (name_filled name p) s)
unfilled s name p h r e g x =
    x ∙ ap (λ l. found_of (find l s))
    (append-nil (p ++ []) ∙ append-nil p ∙ sym (filled_none name p (omega (arith, e, g))))

pub fills : (s name p : List ℕ) (h : ℕ) (r : Option ℕ) → h ≡ 0 + up_to 0x23 (drop 0 p) → h < length p
    → r ≡ found_of (find (take h p ++ name ++ take (length p - (h + 1)) (drop (h + 1) p)) s)
    → r ≡ found_of (find (name_filled name p) s)
fills s name p h r e g x =
    let at : h ≡ up_to 0x23 p = omega (arith, e) in
    let here : up_to 0x23 p < length p = omega arith in
    x ∙ ap (λ l. found_of (find (take h p ++ name ++ l) s)) (tail_whole (h + 1) p)
    ∙ ap (λ l. found_of (find l s)) (rw (add-one h, at) (sym (filled_here name p here)))

-- the first piece of a cut text, and what is left
module _ (c : ℕ) where
  split_more : (s : List ℕ) → up_to c s < length s
      → pieces c s ≡ take (up_to c s) s ∷ pieces c (drop (suc (up_to c s)) s)
  split_more [] h = absurd (omega arith)
  split_more (b ∷ s) h = go (eqb b c) h (split_more s)
    where
      go : (t : Bool) → cond t 0 (suc (up_to c s)) < suc (length s)
          → (up_to c s < length s → pieces c s ≡ take (up_to c s) s ∷ pieces c (drop (suc (up_to c s)) s))
          → cond t ([] ∷ pieces c s) (onto b (pieces c s))
          ≡ take (cond t 0 (suc (up_to c s))) (b ∷ s) ∷ pieces c (drop (suc (cond t 0 (suc (up_to c s)))) (b ∷ s))
      go true h ih = refl
      go false h ih = rw (ih (omega arith)) refl

  split_last : (s : List ℕ) → length s ≤ up_to c s → pieces c s ≡ s ∷ []
  split_last [] h = refl
  split_last (b ∷ s) h = go (eqb b c) h (split_last s)
    where
      go : (t : Bool) → suc (length s) ≤ cond t 0 (suc (up_to c s)) → (length s ≤ up_to c s → pieces c s ≡ s ∷ [])
          → cond t ([] ∷ pieces c s) (onto b (pieces c s)) ≡ (b ∷ s) ∷ []
      go true h ih = absurd (omega arith)
      go false h ih = rw (ih (omega arith)) refl

-- a piece of t goes from `at` to e
pub record Piece (c : ℕ) (t : List ℕ) (at e : ℕ) : Type 0 where
  pub within : at ≤ e
  pub inside : e ≤ length t
  pub ends : e ≡ at + up_to c (drop at t)

module _ (c : ℕ) (t : List ℕ) where
  pub piece_at : (at e : ℕ) → at ≤ length t → e ≡ at + up_to c (drop at t) → Piece c t at e
  piece_at at e h g = record {
    within = omega (arith, g);
    inside = omega (arith, g, up_to_within c (drop at t), length-drop at t);
    ends = g;
  }

  module _ (at e : ℕ) (P : Piece c t at e) where
    pub piece_then : e < length t → pieces c (drop at t) ≡ take (e - at) (drop at t) ∷ pieces c (drop (e + 1) t)
    piece_then h =
        let k : up_to c (drop at t) ≡ e - at = omega (arith, P.ends) in
        let more : up_to c (drop at t) < length (drop at t) = omega (arith, length-drop at t, P.ends) in
        let past : at + suc (e - at) ≡ e + 1 = omega (arith, P.within) in
        let rest : drop (suc (e - at)) (drop at t) ≡ drop (e + 1) t =
        drop-drop (suc (e - at)) at t ∙ ap (λ n. drop n t) past in
        split_more c (drop at t) more ∙ rw (k, rest) refl

    pub piece_last : length t ≤ e → pieces c (drop at t) ≡ take (length t - at) (drop at t) ∷ []
    piece_last h =
        split_last c (drop at t) (omega (arith, length-drop at t, P.ends)) ∙ ap (λ l. l ∷ []) (sym (tail_whole at t))

-- the pieces from `at` on are still to be tried by f; the first of them ends at e
pub record Untried (c : ℕ) (f : List ℕ → Bool) (t : List ℕ) (at e : ℕ) : Type 0 where
  pub piece : Piece c t at e
  pub whole : any f (pieces c t) ≡ any f (pieces c (drop at t))

pub untried_start : (c : ℕ) (f : List ℕ → Bool) (t : List ℕ) (e : ℕ) → e ≡ 0 + up_to c (drop 0 t) → Untried c f t 0 e
untried_start c f t e h = record { piece = piece_at c t 0 e (omega arith) h; whole = refl }

module _ (c : ℕ) (f : List ℕ → Bool) (t : List ℕ) (at e : ℕ) (u : Untried c f t at e) where
  -- one piece is tried
  one : e < length t → any f (pieces c t) ≡ f (take (e - at) (drop at t)) || any f (pieces c (drop (e + 1) t))
  one h = u.whole ∙ ap (any f) (piece_then c t at e u.piece h)

  pub tried : (b : Bool) → e < length t → b ≡ f (take (e - at) (drop at t)) → b ≡ true → true ≡ any f (pieces c t)
  tried b h x y = sym (one h ∙ rw (← x, y) refl)

  pub untried_more : (b : Bool) (n : ℕ) → e < length t → b ≡ f (take (e - at) (drop at t)) → b ≡ false
      → n ≡ e + 1 + up_to c (drop (e + 1) t) → Untried c f t (e + 1) n
  untried_more b n h x y g =
      record { piece = piece_at c t (e + 1) n (omega arith) g; whole = one h ∙ rw (← x, y) refl }

  pub tried_last : (b : Bool) → length t ≤ e → b ≡ f (take (length t - at) (drop at t)) → b ≡ any f (pieces c t)
  tried_last b h x =
      x ∙ sym
      (u.whole ∙ ap (any f) (piece_last c t at e u.piece h) ∙ or_false (f (take (length t - at) (drop at t))))
