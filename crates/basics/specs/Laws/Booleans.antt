-- Law. `&&` and `||` as they are joined, and what a test that is true says.
use Rattle.std.specs.Prelude.{◌≡◌, refl, ◌⊎◌, Bool, true, false, cond, not, ◌&&◌, ◌||◌}
use Rattle.std.proofs.Common.{sym, ◌∙◌, inl, inr}

pub or_false : (x : Bool) → x || false ≡ x
or_false true = refl
or_false false = refl

pub or_assoc : (x y z : Bool) → x || y || z ≡ x || (y || z)
or_assoc true y z = refl
or_assoc false y z = refl

pub or_comm : (x y : Bool) → x || y ≡ y || x
or_comm true true = refl
or_comm true false = refl
or_comm false true = refl
or_comm false false = refl

-- two pairs, joined the other way
pub or_cross : (x y z w : Bool) → x || y || (z || w) ≡ x || z || (y || w)
or_cross true y z w = refl
or_cross false true z w = sym (or_comm z true)
or_cross false false z w = refl

pub and_assoc : (x y z : Bool) → x && y && z ≡ x && (y && z)
and_assoc true y z = refl
and_assoc false y z = refl

pub and_yes : (x : Bool) → x && true ≡ x
and_yes true = refl
and_yes false = refl

pub and_no : (x : Bool) → x && false ≡ false
and_no true = refl
and_no false = refl

pub false_true : {C : Type 0} → false ≡ true → C
false_true e = absurd cc

pub or_true : (x y : Bool) → x || y ≡ true → (x ≡ true) ⊎ (y ≡ true)
or_true true y e = inl refl
or_true false y e = inr e

pub and_true : {x y : Bool} → x && y ≡ true → (x ≡ true) × (y ≡ true)
and_true {x = true} e = (refl, e)
and_true {x = false} e = false_true e

-- a choice of a test is a test
pub pick_or : (t x : Bool) → cond t true x ≡ t || x
pick_or true x = refl
pick_or false x = refl

pub pick_and : (t x : Bool) → cond t false x ≡ not t && x
pick_and true x = refl
pick_and false x = refl

pub not_true : (x : Bool) → not x ≡ true → x ≡ false
not_true true e = false_true e
not_true false e = refl

-- what implies the other adds nothing to it, on its left or on its right
pub absorb_left : (x y : Bool) → (x ≡ true → y ≡ true) → x || y ≡ y
absorb_left true y h = sym (h refl)
absorb_left false y h = refl

pub absorb_right : (x y : Bool) → (y ≡ true → x ≡ true) → x || y ≡ x
absorb_right x y h = or_comm x y ∙ absorb_left y x h

pub implied_false : (x y : Bool) → (x ≡ true → y ≡ true) → y ≡ false → x ≡ false
implied_false true y h e = false_true (sym e ∙ h refl)
implied_false false y h e = refl

-- two tests are equal where each implies the other
pub both_ways : (x y : Bool) → (x ≡ true → y ≡ true) → (y ≡ true → x ≡ true) → x ≡ y
both_ways true y h k = sym (h refl)
both_ways false true h k = k refl
both_ways false false h k = refl

pub both_true : (a b : Bool) → a && b ≡ true → (a ≡ true) × (b ≡ true)
both_true true b e = (refl, e)
both_true false b e = absurd cc
