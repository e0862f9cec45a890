-- Law. THE FIRST NO DECIDES: the number of every call on every input is that of the first no of its answers, in the
-- order of the papers, and 0 where there is none.
use Rattle.std.specs.Prelude.{ℕ, ◌≡◌, refl, Bool, true, false, cond, ◌&&◌, List, [], ◌∷◌, eqb}
use Rattle.std.proofs.Common.{sym, ap, ap₂, ◌∙◌, eqb-true, eq-eqb}
use Rattle.std.proofs.lemmas.Bool.{false≢true}
use Rattle.std.proofs.Math.Option.{none, some}
use Rattle.panel.specs.Outcome.{Asks, ask, ask_some, accept, outcome, number_of}
use Rattle.panel.specs.Questions.{Lengths}
use Rattle.panel.specs.Calls.{Call, asks, gives}
use Rattle.panel.specs.Answers.{order, to, answer, first_no}
use Rattle.panel.proofs.Laws.Asks.{has, behind, InOrder, behind_lacks, has_other}
use Rattle.panel.proofs.Laws.Table.{lawful}

-- no number stands twice
abbrev pub once : List ℕ → Type 0
once [] = Unit {0}
once (n ∷ l) = (has n l ≡ false) × once l

pub and_yes : (b : Bool) → (b && true) ≡ b
and_yes true = refl
and_yes false = refl

to_other : (n m : ℕ) (b : Bool) → eqb n m ≡ false → to n m b ≡ true
to_other n m b e = rw e refl

to_yes : (n m : ℕ) → to n m true ≡ true
to_yes n m = go (eqb n m)
  where
    go : (b : Bool) → cond b true true ≡ true
    go true = refl
    go false = refl

-- a question that a call doesn't put
pub unasked : (l : List ℕ) (a : Asks) (m : ℕ) → InOrder l a → has m l ≡ false → answer a m ≡ true
unasked l (ask n b k) m h g =
    ap₂ ◌&&◌ (to_other m n b (has_other n m l h.0 g)) (unasked (behind n l) k m h.1 (behind_lacks m n l g))
unasked l (ask_some n none k) m h g = to_other m n false (has_other n m l h.0 g)
unasked l (ask_some n (some v) k) m h g = unasked (behind n l) (k v) m (h.1 v) (behind_lacks m n l g)
unasked l (accept x) m h g = refl

-- a yes is passed over
passed : (n : ℕ) (k : Asks) (l : List ℕ) → first_no l (answer (ask n true k)) ≡ first_no l (answer k)
passed n k l = ap (first_no l) (λ i m. to_yes m n i && answer k m)

-- a question that is put, and the rest
here : (n m : ℕ) (k : Asks) (l : List ℕ) (b : Bool) → n ≡ m → answer k m ≡ true
    → cond (to m n b && answer k m) (first_no l (answer (ask n b k))) m ≡ cond b (first_no l (answer k)) n
here n m k l true e y = rw (y, eq-eqb m n (sym e)) (passed n k l)
here n m k l false e y = rw (y, eq-eqb m n (sym e)) (sym e)

put : (n : ℕ) (b : Bool) (k : Asks) (l : List ℕ) → once l → has n l ≡ true → InOrder (behind n l) k
    → first_no l (answer (ask n b k)) ≡ cond b (first_no (behind n l) (answer k)) n
put n b k [] u h i = absurd (false≢true h)
put n b k (m ∷ l) u h i = go (eqb n m) refl h i (put n b k l u.1)
  where
    go : (t : Bool) → eqb n m ≡ t → cond t true (has n l) ≡ true → InOrder (cond t l (behind n l)) k
        → (has n l ≡ true → InOrder (behind n l) k
        → first_no l (answer (ask n b k)) ≡ cond b (first_no (behind n l) (answer k)) n)
        → cond (to m n b && answer k m) (first_no l (answer (ask n b k))) m
        ≡ cond b (first_no (cond t l (behind n l)) (answer k)) n
    go true e h i r = here n m k l b (eqb-true n m e) (unasked l k m i u.0)
    go false e h i r =
        ap (λ t. cond t (first_no l (answer (ask n b k))) m) (unasked l (ask n b k) m (h, i) u.0) ∙ r h i

pub once_behind : (n : ℕ) (l : List ℕ) → once l → once (behind n l)
once_behind n [] u = tt
once_behind n (m ∷ l) u = go (eqb n m) (once_behind n l u.1)
  where
    go : (t : Bool) → once (behind n l) → once (cond t l (behind n l))
    go true r = u.1
    go false r = r

no_no : (l : List ℕ) → first_no l (λ n. true) ≡ 0
no_no [] = refl
no_no (n ∷ l) = no_no l

decided : (l : List ℕ) (a : Asks) → once l → InOrder l a → number_of (outcome a) ≡ first_no l (answer a)
decided l (ask n true k) u h =
    decided (behind n l) k (once_behind n l u) h.1 ∙ sym (put n true k l u h.0 h.1)
decided l (ask n false k) u h = sym (put n false k l u h.0 h.1)
decided l (ask_some n none k) u h =
    sym (put n false (accept []) l u h.0 tt) ∙ ap (first_no l) (λ i m. and_yes (to m n false) i)
decided l (ask_some n (some v) k) u h =
    decided (behind n l) (k v) (once_behind n l u) (h.1 v) ∙ sym (put n true (k v) l u h.0 (h.1 v))
    ∙ passed n (k v) l
decided l (accept x) u h = sym (no_no l)

pub order_once : once order
order_once =
    let r = refl in
    (r, (r, (r, (r, (r, (r, (r, (r, (r, (r, (r, (r, (r, (r, (r, (r, tt))))))))))))))))

pub first_no_holds : (L : Lengths) (old : List ℕ) (c : Call)
    → (gives L old c).number ≡ first_no order (answer (asks L old c))
first_no_holds L old c = decided order (asks L old c) order_once ((lawful c).ordered L old)
