-- Law. A value within questions 5 and 6, by its parts, for every format.
use Rattle.std.specs.Prelude.{◌≡◌, refl, List, [], ◌∷◌, Bool, true, false, ◌&&◌, ◌||◌, ℕ, ◌≤◌, length, leb, eqb}
use Rattle.std.proofs.Common.{sym, inl, inr, arith, leb-true, eqb-true}
use Rattle.std.proofs.lemmas.Bool.{false≢true, eqb-false}
use Rattle.basics.specs.Lists.{All, all}
use Rattle.formats.specs.Format.{Format, never, empty, number, signed, small, text, float, constant, list, choice, ◌&◌}
use Rattle.formats.specs.Format.{Value, takes, Fits}
use Rattle.formats_judge.specs.Judged.{ok}
use Rattle.basics.specs.Laws.Booleans.{both_true}
use Rattle.formats_capacity.specs.Laws.Capacity.{Keeps}
use Rattle.formats_capacity.specs.Laws.Fitting.{Formed, sensible}
use Rattle.formats_capacity.proofs.Laws.Fitting.{keeps_fits}

pub both : {a b : Bool} → a ≡ true → b ≡ true → (a && b) ≡ true
both p q = rw (p, q) refl

-- a value that is formed and within questions 5 and 6. Question 7 counts, and is put to what is left
pub record Judged56 (f : Format) (v : Value f) : Type 0 where
  pub formed : Formed f v
  pub five : ok 5 f v ≡ true
  pub six : ok 6 f v ≡ true

-- a pair
module _ {a b : Format} {v : Value (a & b)} (w : Judged56 (a & b) v) where
  pub left : Judged56 a v.0
  left = record {
    formed = w.formed.0;
    five = (both_true (ok 5 a v.0) (ok 5 b v.1) w.five).0;
    six = (both_true (ok 6 a v.0) (ok 6 b v.1) w.six).0;
  }

  pub right : Judged56 b v.1
  right = record {
    formed = w.formed.1;
    five = (both_true (ok 5 a v.0) (ok 5 b v.1) w.five).1;
    six = (both_true (ok 6 a v.0) (ok 6 b v.1) w.six).1;
  }

pub joined : {a b : Format} (v : Value (a & b)) → Judged56 a v.0 → Judged56 b v.1 → Judged56 (a & b) v
joined v x y = record { formed = (x.formed, y.formed); five = both x.five y.five; six = both x.six y.six }

-- a list
pub elements : (l : ℕ) (f : Format) (v : List (Value f)) → Judged56 (list l f) v → All (Judged56 f) v
elements l f [] w = tt
elements l f (x ∷ v) w =
    let h5 = both_true (ok 5 f x) (all (ok 5 f) v) w.five in
    let h6 = both_true (ok 6 f x) (all (ok 6 f) v) w.six in (
      record { formed = w.formed.0; five = h5.0; six = h6.0 },
      elements l f v (record { formed = w.formed.1; five = h5.1; six = h6.1 }),
    )

pub listed : (l : ℕ) (f : Format) (v : List (Value f)) → All (Judged56 f) v → Judged56 (list l f) v
listed l f [] w = record { formed = tt; five = refl; six = refl }
listed l f (x ∷ v) w =
    let r = listed l f v w.1 in
    record { formed = (w.0.formed, r.formed); five = both w.0.five r.five; six = both w.0.six r.six }

-- an optional value
pub absent : (f : Format) → Judged56 (choice empty f) (inl tt)
absent f = record { formed = tt; five = refl; six = refl }

pub present : (f : Format) (v : Value f) → Judged56 f v → Judged56 (choice empty f) (inr v)
present f v w = record { formed = w.formed; five = w.five; six = w.six }

-- question 7 of a list: few values, and each within it
pub few : (l : ℕ) (f : Format) (v : List (Value f)) → ok 7 (list l f) v ≡ true → length v ≤ l
few l f v e = leb-true (length v) l (both_true (leb (length v) l) (all (ok 7 f) v) e).0

pub counted : (l : ℕ) (f : Format) (v : List (Value f)) → ok 7 (list l f) v ≡ true → all (ok 7 f) v ≡ true
counted l f v e = (both_true (leb (length v) l) (all (ok 7 f) v) e).1

-- the three questions
pub keeps : (f : Format) (v : Value f) → ok 5 f v ≡ true → ok 6 f v ≡ true → ok 7 f v ≡ true → Keeps f v
keeps f v five six seven q a b = go (eqb q 5) refl (eqb q 6) refl
  where
    go : (s : Bool) → eqb q 5 ≡ s → (t : Bool) → eqb q 6 ≡ t → ok q f v ≡ true
    go true e t g = let z : q ≡ 5 = eqb-true q 5 e in rw z five
    go false e true g = let z : q ≡ 6 = eqb-true q 6 g in rw z six
    go false e false g = let z : q ≡ 7 = omega (arith, eqb-false q 5 e, eqb-false q 6 g) in rw z seven

pub fits_of : (f : Format) → sensible f ≡ true → (v : Value f) → Judged56 f v → ok 7 f v ≡ true → Fits f v
fits_of f s v w e = keeps_fits f s v w.formed (keeps f v w.five w.six e)

-- what has a writing is formed
many_formed : (f : Format) → ((v : Value f) → Fits f v → Formed f v) → (v : List (Value f))
    → All (λ x. Fits f x × (takes f x ≡ true)) v → All (Formed f) v
many_formed f g [] h = tt
many_formed f g (x ∷ v) h = (g x h.0.0, many_formed f g v h.1)

pub formed_of : (f : Format) (v : Value f) → Fits f v → Formed f v
formed_of never v h = tt
formed_of empty v h = tt
formed_of (number lo hi) v h = tt
formed_of (signed lo hi) v h = tt
formed_of (small k) v h = leb-true v k h.1
formed_of (text l c) v h = tt
formed_of float v h = h
formed_of (constant c) v h = tt
formed_of (list l f) v h = many_formed f (formed_of f) v h.1
formed_of (choice a b) (inl x) h = formed_of a x h
formed_of (choice a b) (inr y) h = formed_of b y h
formed_of (a & b) v h = (formed_of a v.0 h.0, formed_of b v.1 h.1)

-- a question that nothing in a format speaks of
abbrev pub judges : ℕ → Format → Bool
judges w never = false
judges w empty = false
judges w (number lo hi) = eqb w 6
judges w (signed lo hi) = eqb w 6
judges w (small k) = false
judges w (text l c) = eqb w 5
judges w float = false
judges w (constant c) = false
judges w (list l f) = eqb w 7 || judges w f
judges w (choice a b) = judges w a || judges w b
judges w (a & b) = judges w a || judges w b

neither : (a b : Bool) → (a || b) ≡ false → (a ≡ false) × (b ≡ false)
neither true b e = absurd (false≢true (sym e))
neither false b e = (refl, e)

pub all_true : {A : Type 0} (p : A → Bool) → ((x : A) → p x ≡ true) → (v : List A) → all p v ≡ true
all_true p h [] = refl
all_true p h (x ∷ v) = both (h x) (all_true p h v)

pub unjudged : (w : ℕ) (f : Format) → judges w f ≡ false → (v : Value f) → ok w f v ≡ true
unjudged w never h v = refl
unjudged w empty h v = refl
unjudged w (number lo hi) h v = rw h refl
unjudged w (signed lo hi) h v = rw h refl
unjudged w (small k) h v = refl
unjudged w (text l c) h v = rw h refl
unjudged w float h v = refl
unjudged w (constant c) h v = refl
unjudged w (list l f) h v = let q = neither (eqb w 7) (judges w f) h in
    rw q.0 (all_true (ok w f) (unjudged w f q.1) v)
unjudged w (choice a b) h (inl x) = unjudged w a (neither (judges w a) (judges w b) h).0 x
unjudged w (choice a b) h (inr y) = unjudged w b (neither (judges w a) (judges w b) h).1 y
unjudged w (a & b) h v = let q = neither (judges w a) (judges w b) h in
    both (unjudged w a q.0 v.0) (unjudged w b q.1 v.1)
