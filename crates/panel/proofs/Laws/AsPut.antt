-- Law. EVERY QUESTION OF EVERY CALL IS ANSWERED AS IT IS PUT: no other has its number, and what the earlier ones are
-- answered does not count.
use Rattle.std.specs.Prelude.{ℕ, ◌≡◌, refl, Bool, true, false, cond, List, [], ◌∷◌, eqb}
use Rattle.std.proofs.Common.{sym, ap, ◌∙◌, eqb-true, eq-eqb}
use Rattle.std.proofs.lemmas.Bool.{false≢true}
use Rattle.std.proofs.Math.Option.{Option, none, some}
use Rattle.basics.specs.Options.{is_some}
use Rattle.panel.specs.Outcome.{Asks, ask, ask_some, accept}
use Rattle.panel.specs.Questions.{Lengths}
use Rattle.panel.specs.Calls.{Call, asks}
use Rattle.panel.specs.Answers.{order, answer}
use Rattle.panel.proofs.Laws.Asks.{has, behind, InOrder, behind_lacks}
use Rattle.panel.proofs.Laws.Answers.{once, and_yes, unasked, once_behind, order_once}
use Rattle.panel.proofs.Laws.Table.{lawful}

-- g answers each question of a tree as it is put there, in the light of what the earlier ones read
abbrev pub Each : (ℕ → Bool) → Asks → Type 0
Each g (ask n b k) = (g n ≡ b) × Each g k
Each g (ask_some {A} n o k) = (g n ≡ is_some o) × ((v : A) → o ≡ some v → Each g (k v))
Each g (accept x) = Unit {0}

-- ---- what stands in a list, behind a number

stands : (m n : ℕ) (l : List ℕ) → has m (behind n l) ≡ true → has m l ≡ true
stands m n l h = go (has m l) refl
  where
    go : (t : Bool) → has m l ≡ t → t ≡ true
    go true e = refl
    go false e = absurd (false≢true (sym (behind_lacks m n l e) ∙ h))

own_behind : (n : ℕ) (l : List ℕ) → once l → has n (behind n l) ≡ false
own_behind n [] u = refl
own_behind n (p ∷ l) u = go (eqb n p) refl (own_behind n l u.1)
  where
    go : (t : Bool) → eqb n p ≡ t → has n (behind n l) ≡ false → has n (cond t l (behind n l)) ≡ false
    go true e r = ap (λ k. has k l) (eqb-true n p e) ∙ u.0
    go false e r = r

apart : (m n : ℕ) (l : List ℕ) → has m l ≡ true → has n l ≡ false → eqb m n ≡ false
apart m n l h g = go (eqb m n) refl
  where
    go : (b : Bool) → eqb m n ≡ b → b ≡ false
    go false e = refl
    go true e = absurd (false≢true (sym g ∙ ap (λ k. has k l) (sym (eqb-true m n e)) ∙ h))

-- a question behind another one is answered as without it
passed_by : (l : List ℕ) (n : ℕ) (b : Bool) (k : Asks) → once l → (m : ℕ) → has m (behind n l) ≡ true
    → answer (ask n b k) m ≡ answer k m
passed_by l n b k u m h = rw (apart m n (behind n l) h (own_behind n l u)) refl

-- a question is answered as it is put: none behind it has its number
put_so : (l : List ℕ) (n : ℕ) (b : Bool) (k : Asks) → once l → InOrder (behind n l) k → answer (ask n b k) n ≡ b
put_so l n b k u i = rw (eq-eqb n n refl, unasked (behind n l) k n i (own_behind n l u)) (and_yes b)

read_so : {A : Type 0} (l : List ℕ) (n : ℕ) (o : Option A) (k : A → Asks) → once l
    → ((v : A) → InOrder (behind n l) (k v)) → answer (ask_some n o k) n ≡ is_some o
read_so l n none k u i = rw (eq-eqb n n refl) refl
read_so l n (some v) k u i = unasked (behind n l) (k v) n (i v) (own_behind n l u)

answered : (l : List ℕ) (a : Asks) → once l → InOrder l a → (g : ℕ → Bool)
    → ((m : ℕ) → has m l ≡ true → g m ≡ answer a m) → Each g a
answered l (ask n b k) u i g h = (
  h n i.0 ∙ put_so l n b k u i.1,
  answered (behind n l) k (once_behind n l u) i.1 g (λ m e. h m (stands m n l e) ∙ passed_by l n b k u m e),
)
answered l (ask_some n o k) u i g h = (
  h n i.0 ∙ read_so l n o k u i.1,
  λ v e. answered (behind n l) (k v) (once_behind n l u) (i.1 v) g (λ m q. h m (stands m n l q) ∙ rw e refl),
)
answered l (accept x) u i g h = tt

-- EVERY QUESTION OF EVERY CALL is answered as it is put
pub as_put : (L : Lengths) (old : List ℕ) (c : Call) → Each (answer (asks L old c)) (asks L old c)
as_put L old c = answered order (asks L old c) order_once ((lawful c).ordered L old) _ (λ m h. refl)
