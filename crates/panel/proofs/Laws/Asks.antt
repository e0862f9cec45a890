-- Law. What holds of a call's questions, whichever call it is: what an accepted one was asked, and that they stand in
-- an order.
use Rattle.std.specs.Prelude.{◌≡◌, refl, Bool, true, false, cond, List, [], ◌∷◌, ℕ, eqb}
use Rattle.std.proofs.Common.{sym, ap, subst, ◌∙◌, arith, eqb-true}
use Rattle.std.proofs.lemmas.Bool.{false≢true}
use Rattle.std.proofs.Math.Option.{none, some}
use Rattle.panel.specs.Outcome.{Outcome, refused, accepted, Asks, ask, ask_some, accept, outcome, number_of}

-- P of what is written, given that every question has the answer yes
abbrev pub Always : (List ℕ → Type 0) → Asks → Type 0
Always P (ask n b k) = b ≡ true → Always P k
Always P (ask_some {A} n o k) = (v : A) → o ≡ some v → Always P (k v)
Always P (accept x) = P x

not_both : {A : Type 0} {n : ℕ} {x : List ℕ} → refused n ≡ accepted x → A
not_both e = let z : ◌≡◌ {A = ℕ} 0 1 = cc in absurd (omega arith)

pub always : (P : List ℕ → Type 0) (a : Asks) → Always P a → {x : List ℕ} → outcome a ≡ accepted x → P x
always P (ask n true k) h e = always P k (h refl) e
always P (ask n false k) h e = not_both e
always P (ask_some n none k) h e = not_both e
always P (ask_some n (some v) k) h e = always P (k v) (h v refl) e
always P (accept y) h {x} e = let z : y ≡ x = cc in subst P z h

-- ---- the order

-- does n stand in l, and what stands behind it there
abbrev pub has : ℕ → List ℕ → Bool
has n [] = false
has n (m ∷ l) = cond (eqb n m) true (has n l)

abbrev pub behind : ℕ → List ℕ → List ℕ
behind n [] = []
behind n (m ∷ l) = cond (eqb n m) l (behind n l)

-- the numbers of the questions stand in l, in this order
abbrev pub InOrder : List ℕ → Asks → Type 0
InOrder l (ask n b k) = (has n l ≡ true) × InOrder (behind n l) k
InOrder l (ask_some {A} n o k) = (has n l ≡ true) × ((v : A) → InOrder (behind n l) (k v))
InOrder l (accept x) = Unit {0}

pub behind_lacks : (m n : ℕ) (l : List ℕ) → has m l ≡ false → has m (behind n l) ≡ false
behind_lacks m n [] h = refl
behind_lacks m n (p ∷ l) h = go (eqb m p) h (eqb n p) (behind_lacks m n l)
  where
    go : (a : Bool) → cond a true (has m l) ≡ false → (b : Bool)
        → (has m l ≡ false → has m (behind n l) ≡ false) → has m (cond b l (behind n l)) ≡ false
    go true h b r = absurd (false≢true (sym h))
    go false h true r = h
    go false h false r = r h

pub has_other : (n m : ℕ) (l : List ℕ) → has n l ≡ true → has m l ≡ false → eqb m n ≡ false
has_other n m l h g = go (eqb m n) refl
  where
    go : (b : Bool) → eqb m n ≡ b → b ≡ false
    go false e = refl
    go true e = absurd (false≢true (sym g ∙ ap (λ k. has k l) (eqb-true m n e) ∙ h))

-- an accepted call is one whose number is 0
pub record Accepted (o : Outcome) : Type 0 where
  pub bytes : List ℕ
  pub is : o ≡ accepted bytes

not_zero : (l : List ℕ) (n : ℕ) → has n l ≡ true → has 0 l ≡ false → n ≡ 0 → ⊥
not_zero l n h g e = false≢true (sym g ∙ ap (λ k. has k l) (sym e) ∙ h)

pub zero_accepted : (l : List ℕ) (a : Asks) → has 0 l ≡ false → InOrder l a → number_of (outcome a) ≡ 0
    → Accepted (outcome a)
zero_accepted l (ask n true k) z h e = zero_accepted (behind n l) k (behind_lacks 0 n l z) h.1 e
zero_accepted l (ask n false k) z h e = absurd (not_zero l n h.0 z e)
zero_accepted l (ask_some n none k) z h e = absurd (not_zero l n h.0 z e)
zero_accepted l (ask_some n (some v) k) z h e = zero_accepted (behind n l) (k v) (behind_lacks 0 n l z) (h.1 v) e
zero_accepted l (accept x) z h e = record { bytes = x; is = refl }
