-- Law. What no row lists.
use Rattle.std.specs.Prelude.{ℕ, ◌≤◌, ◌≡◌, refl, List, [], ◌∷◌, Bool, true, cond, ◌&&◌, ltb, eqb}
use Rattle.std.proofs.Common.{ap, ◌∙◌, arith, ltb-true, ne_eqb}
use Rattle.std.proofs.Math.Option.{none, some}
use Rattle.basics.specs.Lists.{all}
use Rattle.basics.specs.Laws.Booleans.{both_true, and_no}
use Rattle.realtime.specs.Schema.{FieldRow, listed, field_rows, feed}

listed_above : (l : List FieldRow) (n t f : ℕ) → all (λ r. ltb r.type n) l ≡ true → n ≤ t → listed l t f ≡ none
listed_above [] n t f e h = refl
listed_above (r ∷ l) n t f e h =
    let x = both_true (ltb r.type n) (all (λ r. ltb r.type n) l) e in
    let y = ltb-true r.type n x.0 in
    rw (ne_eqb t r.type (λ q. absurd (omega (arith, q, y, h)))) (listed_above l n t f x.1 h)

-- a type that no message has
pub feed_above : (t f : ℕ) → 16 ≤ t → feed t f ≡ none
unfolding feed field_rows
feed_above t f h = listed_above field_rows 16 t f refl h

-- a field's number that no row has, by a test of the rows' numbers
listed_nowhere : (p : ℕ → Bool) (l : List FieldRow) (t f : ℕ) → ((n : ℕ) → p n ≡ true → f ≡ n → ⊥)
    → all (λ r. p r.field) l ≡ true
    → listed l t f ≡ none
listed_nowhere p [] t f h e = refl
listed_nowhere p (r ∷ l) t f h e =
    let x = both_true (p r.field) (all (λ r. p r.field) l) e in
    ap (λ b. cond (eqb t r.type && b) (some r.kind) (listed l t f)) (ne_eqb f r.field (h r.field x.0))
    ∙ ap (λ b. cond b (some r.kind) (listed l t f)) (and_no (eqb t r.type)) ∙ listed_nowhere p l t f h x.1

-- fields that no message has
pub feed_nowhere : (t : ℕ) → feed t 0 ≡ none
unfolding feed field_rows
feed_nowhere t = listed_nowhere (ltb 0) field_rows t 0 (λ n e q. absurd (omega (arith, q, ltb-true 0 n e))) refl

pub feed_beyond : (t f : ℕ) → 12 ≤ f → feed t f ≡ none
unfolding feed field_rows
feed_beyond t f h =
    listed_nowhere (λ n. ltb n 12) field_rows t f (λ n e q. absurd (omega (arith, q, h, ltb-true n 12 e))) refl
