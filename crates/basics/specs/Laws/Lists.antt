-- Law. Laws of the tests over lists and texts: `||` as it is joined, `any` of joined and nested lists, equality of
-- texts.
use Rattle.std.specs.Prelude.{◌≡◌, refl, List, [], ◌∷◌, ◌++◌, Bool, true, false, ◌||◌, ℕ}
use Rattle.std.proofs.Common.{sym, ap, ◌∙◌, ⊎_elim}
use Rattle.basics.specs.Lists.{any, concat_map}
use Rattle.basics.specs.Laws.Booleans.{or_assoc, or_comm, or_cross, or_true}

module _ {A : Type 0} where
  pub any_append : (p : A → Bool) (l m : List A) → any p (l ++ m) ≡ any p l || any p m
  any_append p [] m = refl
  any_append p (a ∷ l) m = rw (any_append p l m) (sym (or_assoc (p a) (any p l) (any p m)))

  pub any_none : (l : List A) → any (λ a. false) l ≡ false
  any_none [] = refl
  any_none (a ∷ l) = any_none l

  pub any_or : (p q : A → Bool) (l : List A) → any (λ a. p a || q a) l ≡ any p l || any q l
  any_or p q [] = refl
  any_or p q (a ∷ l) = rw (any_or p q l) (or_cross (p a) (q a) (any p l) (any q l))

  pub any_same : (p q : A → Bool) → ((a : A) → p a ≡ q a) → (l : List A) → any p l ≡ any q l
  any_same p q h [] = refl
  any_same p q h (a ∷ l) = rw (h a, any_same p q h l) refl

  pub any_implies : (p q : A → Bool) → ((a : A) → p a ≡ true → q a ≡ true) → (l : List A) → any p l ≡ true
      → any q l ≡ true
  any_implies p q h [] e = e
  any_implies p q h (a ∷ l) e =
      ⊎_elim (λ x. rw (h a x) refl) (λ x. rw (any_implies p q h l x) (or_comm (q a) true)) (or_true (p a) (any p l) e)

pub any_join : {A B : Type 0} (p : B → Bool) (f : A → List B) (l : List A)
    → any p (concat_map f l) ≡ any (λ a. any p (f a)) l
any_join p f [] = refl
any_join p f (a ∷ l) = any_append p (f a) (concat_map f l) ∙ ap (λ x. any p (f a) || x) (any_join p f l)

pub any_swap : {A B : Type 0} (r : A → B → Bool) (l : List A) (m : List B)
    → any (λ a. any (r a) m) l ≡ any (λ b. any (λ a. r a b) l) m
any_swap r [] m = sym (any_none m)
any_swap r (a ∷ l) m = ap (λ x. any (r a) m || x) (any_swap r l m) ∙ sym (any_or (r a) (λ b. any (λ a. r a b) l) m)

pub headed : {a b : ℕ} {s t : List ℕ} → a ≡ b → s ≡ t → a ∷ s ≡ b ∷ t
headed p q = cc
