-- Law. Pieces of a key, one after another.
use Rattle.std.specs.Prelude.{◌≡◌, refl, List, [], ◌∷◌, ◌++◌, Bool, true, false, ℕ, suc, ◌+◌, ◌-◌, ◌/◌, ◌%◌, ◌≤◌, ◌<◌, eqb, length, take, drop, get_or, Option, Some, None}
use Rattle.std.proofs.Common.{sym, ap, ◌∙◌, append_assoc, append-nil, arith, length-append, length-drop, length-take-le, take-add, take-take, drop-drop, drop-cons, eqb-true, lt-ltb, le-ltb}
use Rattle.std.proofs.lemmas.List.{append_cancel_left}
use Rattle.std.proofs.Math.Seq.{take-append_seam}
use Rattle.std.proofs.lemmas.Bool.{eqb-false}
use Rattle.basics.specs.Texts.{same}
use Rattle.basics.specs.Laws.Booleans.{false_true}
use Rattle.basics.specs.Laws.Texts.{same_refl, same_true}
use Rattle.decode.specs.Key.{decimal_of}
use Rattle.overlay_keys.specs.Promises.Piece.{bytes, Inside, Pieced, Piece, Moved, Moves}

pub bytes_join : (s : List ℕ) (a b e : ℕ) → a ≤ b → b ≤ e → bytes s a e ≡ bytes s a b ++ bytes s b e
bytes_join s a b e h k =
    let n : e - a ≡ b - a + (e - b) = omega arith in
    let m : a + (b - a) ≡ b = omega arith in
    ap (λ n. take n (drop a s)) n ∙ take-add (b - a) (e - b) (drop a s)
    ∙ ap (λ l. take (b - a) (drop a s) ++ take (e - b) l) (drop-drop (b - a) a s ∙ ap (λ n. drop n s) m)

pub bytes_length : {s : List ℕ} {a e : ℕ} → Inside s a e → length (bytes s a e) ≡ e - a
bytes_length {s} {a} {e} I =
    length-take-le (e - a) (drop a s) (rw length-drop (omega (arith, I.forward, I.within)))

pub bytes_none : (s : List ℕ) (a e : ℕ) → e - a ≡ 0 → bytes s a e ≡ []
bytes_none s a e z = rw z refl

-- one piece
module _ {s : List ℕ} {at e : ℕ} (I : Inside s at e) where
  pub piece_empty : Piece [] s at e (Some at)
  piece_empty = record { tells = (omega arith, I.forward, bytes_none s at at (omega arith)) }

  pub piece_short : {x : List ℕ} → e - at < length x → Piece x s at e None
  piece_short {x} h =
      record { tells = λ z q. omega (arith, bytes_length I, ap length q, length-append x z) }

  module _ {x : List ℕ} (h : length x ≤ e - at) {t : Bool} (i : t ≡ same (take (at + length x - at)
      (drop at s)) x) where
    pub piece_so : t ≡ true → Piece x s at e (Some (at + length x))
    piece_so f =
        let k : at + length x ≤ e = omega (arith, I.forward) in
        record { tells = (omega arith, k, same_true (bytes s at (at + length x)) x (sym i ∙ f)) }

    pub piece_other : t ≡ false → Piece x s at e None
    piece_other f = record { tells = λ z q. false_true (sym f ∙ i ∙ ap (λ y. same y x) (is z q) ∙ same_refl x) }
      where
        is : (z : List ℕ) → bytes s at e ≡ x ++ z → take (at + length x - at) (drop at s) ≡ x
        is z q =
            let n : at + length x - at ≡ length x = omega arith in
            rw n (sym (take-take (length x) (e - at) (drop at s) h) ∙ ap (take (length x)) q ∙ take-append_seam x z)

  -- one byte
  pub byte_end : {x : ℕ} → e ≤ at → Piece (x ∷ []) s at e None
  byte_end h = piece_short (omega arith)

  module _ {x b : ℕ} (h : at < e) (i : b ≡ get_or s at 0) where
    pub byte_so : b ≡ x → Piece (x ∷ []) s at e (Some (at + 1))
    byte_so f =
        let n : at + 1 - at ≡ suc 0 = omega arith in
        let j : get_or s at 0 ≡ x = sym i ∙ f in
        let here : at < length s = omega (arith, I.within) in
        record { tells = (omega arith, omega arith, rw (n, drop-cons s at 0 here) (ap (λ y. y ∷ []) j)) }

    pub byte_other : (b ≡ x → ⊥) → Piece (x ∷ []) s at e None
    byte_other f =
        let n : e - at ≡ suc (e - at - 1) = omega arith in
        let here : at < length s = omega (arith, I.within) in
        record { tells = λ z q. f (i ∙ heads (rw (n, drop-cons s at 0 here) at q)) }
      where
        heads : {y : ℕ} {l z : List ℕ} → ◌≡◌ {A = List ℕ} (y ∷ l) (x ∷ z) → y ≡ x
        heads q = cc

-- one after the other
module _ {x s : List ℕ} {at e : ℕ} {r : Option ℕ} (P : Piece x s at e r) where
  stops : r ≡ None → (z : List ℕ) → bytes s at e ≡ x ++ z → ⊥
  stops h = rw h at P.tells

  pub piece_stop : (y : List ℕ) → r ≡ None → Piece (x ++ y) s at e None
  piece_stop y h = record { tells = λ z q. stops h (y ++ z) (q ∙ append_assoc x y z) }

  module _ {m : ℕ} (h : r ≡ Some m) where
    at_m : (at ≤ m) × (m ≤ e) × (bytes s at m ≡ x)
    at_m = rw h at P.tells

    pub piece_forward : m ≤ e
    piece_forward = at_m.1

    pub piece_inside : {a : ℕ} → Inside s a e → Inside s m e
    piece_inside I = record { forward = at_m.1; within = I.within }

    pub piece_then : {y : List ℕ} {q : Option ℕ} → Piece y s m e q → Piece (x ++ y) s at e q
    piece_then {y} {q} Q = record { tells = go q Q.tells }
      where
        go : (q : Option ℕ) → Pieced y s m e q → Pieced (x ++ y) s at e q
        go (Some n) t = (
          omega (arith, at_m.0, t.0),
          t.1,
          bytes_join s at m n at_m.0 t.0 ∙ rw (at_m.2, t.2) refl,
        )
        go None t = λ z q.
            t z
            (append_cancel_left x (bytes s m e) (y ++ z)
            (ap (λ w. w ++ bytes s m e) (sym at_m.2) ∙ sym (bytes_join s at m e at_m.0 at_m.1) ∙ q
            ∙ append_assoc x y z))

  pub piece_moves : Moves at e r
  piece_moves = record { tells = go r P.tells }
    where
      go : (r : Option ℕ) → Pieced x s at e r → Moved at e r
      go (Some m) t = (t.0, t.1)
      go None t = tt

  -- the whole is the same just where the pieces end with it
  not_same : (b : Bool) → (b ≡ true → ⊥) → false ≡ b
  not_same false f = refl
  not_same true f = absurd (f refl)

  pub piece_not : r ≡ None → false ≡ same (bytes s at e) x
  piece_not h =
      not_same (same (bytes s at e) x) (λ i. stops h [] (same_true (bytes s at e) x i ∙ sym (append-nil x)))

  pub piece_end : {m : ℕ} → r ≡ Some m → Inside s at e → (t : Bool) → t ≡ eqb m e → t ≡ same (bytes s at e) x
  piece_end {m} h I true i =
      let j : m ≡ e = eqb-true m e (sym i) in
      let k : bytes s at e ≡ x = ap (bytes s at) (sym j) ∙ (at_m h).2 in
      sym (ap (λ y. same y x) k ∙ same_refl x)
  piece_end {m} h I false i =
      let A = at_m h in
      not_same (same (bytes s at e) x)
      (λ q. eqb-false m e (sym i)
      (omega (
        arith,
        bytes_length I,
        ap length (same_true (bytes s at e) x q),
        ap length A.2,
        A.0,
        A.1,
        bytes_length {s = s} {a = at} {e = m} (record { forward = A.0; within = within A.1 I.within }),
      )))
    where
      within : {a b c : ℕ} → a ≤ b → b ≤ c → a ≤ c
      within p q = omega arith

-- places that move on
pub moves_stop : {at e : ℕ} → Moves at e None
moves_stop = record { tells = tt }

pub moves_none : {s : List ℕ} {at e : ℕ} → Inside s at e → Moves at e (Some at)
moves_none I = record { tells = (omega arith, I.forward) }

module _ {at e : ℕ} {r : Option ℕ} (M : Moves at e r) {m : ℕ} (h : r ≡ Some m) where
  moved : (at ≤ m) × (m ≤ e)
  moved = rw h at M.tells

  pub moves_inside : {s : List ℕ} {a : ℕ} → Inside s a e → Inside s m e
  moves_inside I = record { forward = moved.1; within = I.within }

  pub moves_then : {q : Option ℕ} → Moves m e q → Moves at e q
  moves_then {q} N = record { tells = go q N.tells }
    where
      go : (q : Option ℕ) → Moved m e q → Moved at e q
      go (Some n) t = (omega (arith, moved.0, t.0), t.1)
      go None t = tt

-- numbers in decimal
module _ (k n : ℕ) {s : List ℕ} {at e : ℕ} where
  pub decimal_none : Inside s at e → k ≡ 0 → Piece (decimal_of k n) s at e (Some at)
  decimal_none I z = rw z (piece_empty I)

  pub decimal_one : (k ≡ 0 → ⊥) → n < 10 → {r : Option ℕ} → Piece ((48 + n) ∷ []) s at e r
      → Piece (decimal_of k n) s at e r
  decimal_one z h {r} P =
      let j : k ≡ suc (k - 1) = omega arith in
      rw (j, lt-ltb n 10 h) P

  module _ (z : k ≡ 0 → ⊥) (h : 10 ≤ n) {r : Option ℕ} (P : Piece (decimal_of (k - 1) (n / 10)) s at e r) where
    pub decimal_stop : r ≡ None → Piece (decimal_of k n) s at e None
    decimal_stop i =
        let j : k ≡ suc (k - 1) = omega arith in
        rw (j, le-ltb n 10 h) (piece_stop P ((48 + n % 10) ∷ []) i)

    pub decimal_more : {m : ℕ} → r ≡ Some m → {q : Option ℕ} → Piece ((48 + n % 10) ∷ []) s m e q
        → Piece (decimal_of k n) s at e q
    decimal_more i Q =
        let j : k ≡ suc (k - 1) = omega arith in
        rw (j, le-ltb n 10 h) (piece_then P i Q)
