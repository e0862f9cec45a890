-- Law. THE PLACES FOR ADDED FIELDS, in document 01's words ("History"), are those of `Gains`, and no others: any
-- number of fields, at any depth, added in any order.
use Rattle.std.specs.Prelude.{ℕ, zero, suc, ◌≤◌, ◌≡◌, refl, List, [], ◌∷◌, ◌++◌, ◌↔◌, length}
use Rattle.std.proofs.Common.{sym, ap, subst, ◌∙◌, append_assoc, append-nil, arith}
use Rattle.std.proofs.Math.Option.{Option, none, some, map}
use Rattle.wire.specs.Wire.{Read, broken, read, Field, field, fields}
use Rattle.wire.specs.Laws.Wire.{moves, reader_field, field_nil}
use Rattle.wire.specs.Fields.{Whole}
use Rattle.wire.specs.Laws.Fields.{fields_nil, fields_step, fields_broken, field_front}
use Rattle.basics.specs.Laws.Options.{none_some}
use Rattle.realtime.specs.Tree.{Schema, a_message}
use Rattle.realtime.specs.Gains.{Gains, same, keep, gain, inside, KeyOf, LengthOf}
use Rattle.realtime.proofs.Laws.Transitive.{whole, three, gains_more}

-- of a message of type t, x with fields added is y
pub data AddsFields (σ : Schema) : ℕ → List ℕ → List ℕ → Type 0 where
  none_added : {t : ℕ} {x : List ℕ} → AddsFields σ t x x
  -- after some of the message's fields, or none of them, which is its first byte: a whole field, its number not listed
  added : {t : ℕ} (a f b : List ℕ) (xs : List Field) (x : Field) → fields a ≡ some xs → Whole f x
      → σ t x.number ≡ none → AddsFields σ t (a ++ b) (a ++ (f ++ b))
  -- in the message that a listed field holds, wherever that stands among the fields; its length is written anew
  reached : {t : ℕ} (n u : ℕ) (a k l l' p p' b : List ℕ) (xs : List Field) → fields a ≡ some xs
      → KeyOf k n → LengthOf l p → LengthOf l' p' → σ t n ≡ some (a_message u) → AddsFields σ u p p'
      → AddsFields σ t (a ++ (k ++ (l ++ (p ++ b)))) (a ++ (k ++ (l' ++ (p' ++ b))))
  -- and others to what came out
  then : {t : ℕ} {x y z : List ℕ} → AddsFields σ t x y → AddsFields σ t y z → AddsFields σ t x z

-- ---- what gains behind whole fields gains

some_of : (x : Field) (o : Option (List Field)) (xs : List Field) → map (λ l. x ∷ l) o ≡ some xs
    → (ys : List Field) × (o ≡ some ys)
some_of x none xs e = none_some e
some_of x (some ys) xs e = (ys, refl)

module _ (σ : Schema) (t : ℕ) (b c : List ℕ) (g : Gains σ t b c) where
  abbrev Front : List ℕ → Type 0
  Front a = Gains σ t (a ++ b) (a ++ c)

  step : (n : ℕ) (a : List ℕ) (xs : List Field) → length a ≤ suc n → fields a ≡ some xs
      → ((r : List ℕ) (ys : List Field) → length r ≤ n → fields r ≡ some ys → Front r) → Front a
  step n [] xs h e ih = g
  step n (y ∷ a) xs h e ih = go (field 16 (y ∷ a)) refl
    where
      go : (o : Read Field) → field 16 (y ∷ a) ≡ o → Front (y ∷ a)
      go broken e₁ = none_some (sym (fields_broken (y ∷ a) (omega arith) e₁) ∙ e)
      go (read x r) e₁ =
          let F = reader_field 16 (y ∷ a) x r e₁ in
          let w : Whole F.used x = ap (field 16) (sym (append-nil F.used)) ∙ F.again [] in
          let m = moves (field 16) (reader_field 16) (field_nil 16) (y ∷ a) x r e₁ in
          let s = some_of x (fields r) xs (sym (fields_step (y ∷ a) x r e₁) ∙ e) in
          let k = keep F.used x w (ih r s.0 (omega arith) s.1) in
          subst (λ z. Gains σ t (z ++ b) (z ++ c)) (sym F.splits)
          (subst (λ z. Gains σ t z ((F.used ++ r) ++ c)) (sym (append_assoc F.used r b))
          (subst (λ z. Gains σ t (F.used ++ (r ++ b)) z) (sym (append_assoc F.used r c)) k))

  none_left : (a : List ℕ) → length a ≤ 0 → Front a
  none_left [] h = g
  none_left (y ∷ a) h = absurd (omega arith)

  front : (n : ℕ) (a : List ℕ) (xs : List Field) → length a ≤ n → fields a ≡ some xs → Front a
  front zero a xs h e = none_left a h
  front (suc n) a xs h e = step n a xs h e (front n)

  behind : (a : List ℕ) (xs : List Field) → fields a ≡ some xs → Front a
  behind a xs e = front (length a) a xs (omega arith) e

adds_gains : {σ : Schema} {t : ℕ} {x y : List ℕ} → AddsFields σ t x y → Gains σ t x y
adds_gains none_added = same
adds_gains {σ} {t} (added a f b xs x e w h) = behind σ t b (f ++ b) (gain f x w h same) a xs e
adds_gains {σ} {t} (reached n u a k l l' p p' b xs e K L L' h d) =
    let g = inside n u k l l' p p' K L L' h (adds_gains d) same in
    behind σ t (k ++ (l ++ (p ++ b))) (k ++ (l' ++ (p' ++ b))) g a xs e
adds_gains {σ} (then d e) = gains_more σ (adds_gains d) (adds_gains e)

-- ---- and what gains adds fields

fields_front : (f : List ℕ) (x : Field) (a : List ℕ) (xs : List Field) → Whole f x → fields a ≡ some xs
    → fields (f ++ a) ≡ some (x ∷ xs)
fields_front f x a xs w e = fields_step (f ++ a) x a (field_front f x a w) ∙ ap (map (λ l. x ∷ l)) e

-- behind one more whole field
one_on : {σ : Schema} {t : ℕ} {a b : List ℕ} (f : List ℕ) (x : Field) → Whole f x → AddsFields σ t a b
    → AddsFields σ t (f ++ a) (f ++ b)
one_on f x w none_added = none_added
one_on {σ} {t} f x w (added a g b xs y e v h) =
    subst (λ z. AddsFields σ t z (f ++ (a ++ (g ++ b)))) (append_assoc f a b)
    (subst (λ z. AddsFields σ t ((f ++ a) ++ b) z) (append_assoc f a (g ++ b))
    (added (f ++ a) g b (x ∷ xs) y (fields_front f x a xs w e) v h))
one_on {σ} {t} f x w (reached n u a k l l' p p' b xs e K L L' h d) =
    let old = k ++ (l ++ (p ++ b)) in
    let new = k ++ (l' ++ (p' ++ b)) in
    subst (λ z. AddsFields σ t z (f ++ (a ++ new))) (append_assoc f a old)
    (subst (λ z. AddsFields σ t ((f ++ a) ++ old) z) (append_assoc f a new)
    (reached n u (f ++ a) k l l' p p' b (x ∷ xs) (fields_front f x a xs w e) K L L' h d))
one_on f x w (then d e) = then (one_on f x w d) (one_on f x w e)

gains_adds : {σ : Schema} {t : ℕ} {x y : List ℕ} → Gains σ t x y → AddsFields σ t x y
gains_adds same = none_added
gains_adds (keep f x w g) = one_on f x w (gains_adds g)
gains_adds (gain {b = b} f x w h g) = then (gains_adds g) (added [] f b [] x fields_nil w h)
gains_adds {σ} {t} (inside {a = a} {b = b} n u k l l' p p' K L L' h g g') =
    let rest : AddsFields σ t (k ++ (l ++ (p ++ a))) (k ++ (l ++ (p ++ b))) =
    subst (λ z. AddsFields σ t z (k ++ (l ++ (p ++ b)))) (sym (three k l p a))
    (subst (λ z. AddsFields σ t ((k ++ (l ++ p)) ++ a) z) (sym (three k l p b))
    (one_on (k ++ (l ++ p)) _ (whole n k l p K L) (gains_adds g'))) in
    then rest (reached n u [] k l l' p p' b [] fields_nil K L L' h (gains_adds g))

-- THE PAPER'S PLACES
pub places : (σ : Schema) (t : ℕ) (x y : List ℕ) → AddsFields σ t x y ↔ Gains σ t x y
places σ t x y = (adds_gains, gains_adds)
