-- Law. Laws of texts: a part of a part is a part, what stands at the front or the end is a part, what trimming and
-- cutting leave.
use Rattle.std.specs.Prelude.{◌≡◌, refl, List, [], ◌∷◌, ◌++◌, Bool, true, false, ℕ, eqb}
use Rattle.std.proofs.Common.{sym, ap, subst, ◌∙◌, append_assoc, append-nil, ⊎_elim, eqb-true, eq-eqb}
use Rattle.std.proofs.Math.Option.{Option, none, some}
use Rattle.formats.specs.Laws.Law.{found}
use Rattle.basics.specs.Laws.Options.{none_some}
use Rattle.basics.specs.Laws.Lists.{headed}
use Rattle.basics.specs.Laws.Texts.{same_refl, same_true}
use Rattle.basics.specs.Lists.{is_empty}
use Rattle.alerts.specs.Text.{begins, ends, contains, split_off, rsplit_once}
use Rattle.basics.specs.Texts.{same}
use Rattle.basics.specs.Laws.Booleans.{or_comm, or_true, and_true, false_true}

-- what is empty
pub is_empty_true : (s : List ℕ) → is_empty s ≡ true → s ≡ []
is_empty_true [] e = refl
is_empty_true (b ∷ s) e = false_true e

-- a text that begins with p is p and a rest, and the other way
pub begins_append : (p y : List ℕ) → begins p (p ++ y) ≡ true
begins_append [] y = refl
begins_append (a ∷ p) y = rw (eq-eqb a a refl) (begins_append p y)

pub begins_true : (p s : List ℕ) → begins p s ≡ true → (y : List ℕ) × (s ≡ p ++ y)
begins_true [] s e = (s, refl)
begins_true (a ∷ p) [] e = false_true e
begins_true (a ∷ p) (b ∷ s) e =
    let h = and_true e in
    let (y, g) = begins_true p s h.1 in
    (y, headed (sym (eqb-true a b h.0)) g)

-- a text that contains p is p between two texts, and the other way
pub contains_append : (x p y : List ℕ) → contains p (x ++ p ++ y) ≡ true
contains_append [] [] [] = refl
contains_append [] [] (b ∷ y) = refl
contains_append [] (a ∷ p) y = rw (begins_append (a ∷ p) y) refl
contains_append (b ∷ x) p y = rw (contains_append x p y) (or_comm (begins p (b ∷ (x ++ p ++ y))) true)

pub contains_end : (x p : List ℕ) → contains p (x ++ p) ≡ true
contains_end x p = ap (contains p) (sym (append-nil (x ++ p))) ∙ contains_append x p []

pub contains_true : (p s : List ℕ) → contains p s ≡ true → (x : List ℕ) × (y : List ℕ) × (s ≡ x ++ p ++ y)
contains_true p [] e = ([], [], sym (append-nil p ∙ is_empty_true p e))
contains_true p (b ∷ s) e =
    ⊎_elim
    (λ h. let (y, g) = begins_true p (b ∷ s) h in ([], y, g))
    (λ h. let (x, y, g) = contains_true p s h in (b ∷ x, y, headed refl g))
    (or_true (begins p (b ∷ s)) (contains p s) e)

pub contains_trans : (q p s : List ℕ) → contains q p ≡ true → contains p s ≡ true → contains q s ≡ true
contains_trans q p s h e =
    let (x, y, g) = contains_true q p h in
    let (x', y', g') = contains_true p s e in
    let whole : s ≡ x' ++ x ++ q ++ (y ++ y') = g' ∙ ap (λ l. x' ++ l ++ y') g ∙ simp append_assoc in
    rw whole (contains_append (x' ++ x) q (y ++ y'))

pub begins_contains : (p s : List ℕ) → begins p s ≡ true → contains p s ≡ true
begins_contains p s e = let (y, g) = begins_true p s e in rw g (contains_append [] p y)

-- ends
pub ends_append : (x p : List ℕ) → ends p (x ++ p) ≡ true
ends_append [] [] = refl
ends_append [] (a ∷ p) = rw (same_refl (a ∷ p)) refl
ends_append (b ∷ x) p = rw (ends_append x p) (or_comm (same p (b ∷ (x ++ p))) true)

pub ends_contains : (p s : List ℕ) → ends p s ≡ true → contains p s ≡ true
ends_contains p [] e = e
ends_contains p (b ∷ s) e =
    ⊎_elim
    (λ h. subst (λ q. contains q (b ∷ s) ≡ true) (sym (same_true p (b ∷ s) h)) (contains_end [] (b ∷ s)))
    (λ h. rw (ends_contains p s h) (or_comm (begins p (b ∷ s)) true))
    (or_true (same p (b ∷ s)) (ends p s) e)

-- where a text is cut at its last c, it is the two parts with c between
pub rsplit_joined : (c : ℕ) (s x y : List ℕ) → rsplit_once c s ≡ some (x, y) → s ≡ x ++ (c ∷ y)
rsplit_joined c [] x y e = none_some e
rsplit_joined c (b ∷ s) x y e = go (rsplit_once c s) refl (eqb b c) refl e (rsplit_joined c s)
  where
    go : (o : Option (List ℕ × List ℕ)) → rsplit_once c s ≡ o → (t : Bool) → eqb b c ≡ t
        → split_off t b s o ≡ some (x, y)
        → ((x y : List ℕ) → rsplit_once c s ≡ some (x, y) → s ≡ x ++ (c ∷ y)) → b ∷ s ≡ x ++ (c ∷ y)
    go (some p) eo t et e ih = found (λ x y. b ∷ s ≡ x ++ (c ∷ y)) e (headed refl (ih p.0 p.1 eo))
    go none eo true et e ih = found (λ x y. b ∷ s ≡ x ++ (c ∷ y)) e (headed (eqb-true b c et) refl)
    go none eo false et e ih = none_some e
