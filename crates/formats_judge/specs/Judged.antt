-- Believe: 01, Questions before work. Document 01's questions 5, 6 and 7 on a value of a format: one predicate with
-- the question's number, and the verdict, the first that fails.
use Rattle.std.specs.Prelude.{List, ◌⊎◌, Bool, true, false, cond, ◌&&◌, ℕ, ◌-◌, ℤ, pos, negsuc, length, drop, leb, eqb, Option, Some, None}
use Rattle.std.proofs.Math.Option.{Option as LogicOption, none, some}
use Rattle.std.proofs.Common.{inl, inr}
use Rattle.formats.specs.Class.{in_class}
use Rattle.basics.specs.Lists.{all}
use Rattle.formats.specs.Format.{Format, never, empty, number, signed, small, text, float, constant, list, choice, ◌&◌}
use Rattle.formats.specs.Format.{Value, read}

abbrev pub at_most : ℤ → ℤ → Bool
at_most (pos m) (pos n) = leb m n
at_most (pos m) (negsuc n) = false
at_most (negsuc m) (pos n) = true
at_most (negsuc m) (negsuc n) = leb n m

-- a question that is not the one that is put is answered yes
abbrev pub for_question : ℕ → ℕ → Bool → Bool
for_question q mine x = cond (eqb q mine) x true

abbrev pub either : {A B : Type 0} → (A → Bool) → (B → Bool) → (A ⊎ B) → Bool
either p q (inl a) = p a
either p q (inr b) = q b

-- whether question q has the answer yes for every part of a value: 5 for texts, 6 for ranges, 7 for counts
abbrev pub ok : ℕ → (f : Format) → Value f → Bool
ok q never = λ v. true
ok q empty = λ v. true
ok q (number lo hi) = λ n. for_question q 6 (leb lo n && leb n hi)
ok q (signed lo hi) = λ z. for_question q 6 (at_most lo z && at_most z hi)
ok q (small k) = λ v. true
ok q (text l c) = λ v. for_question q 5 (leb (length v) l && in_class c v)
ok q float = λ v. true
ok q (constant c) = λ v. true
ok q (list l f) = λ v. for_question q 7 (leb (length v) l) && all (ok q f) v
ok q (choice a b) = either (ok q a) (ok q b)
ok q (a & b) = λ v. ok q a v.0 && ok q b v.1

-- 0 for yes, else the question's number
abbrev pub answer : ℕ → Bool → ℕ
answer q x = cond x 0 q

-- 0 where all hold, else the number of the first that does not
abbrev pub first_failing : Bool → Bool → Bool → ℕ
first_failing five six seven = cond five (cond six (answer 7 seven) 6) 5

-- each question is put to the whole value before the next is put to any part
abbrev pub verdict : (f : Format) → Value f → ℕ
verdict f v = first_failing (ok 5 f v) (ok 6 f v) (ok 7 f v)

-- what the judge answers: the place past the value, and its verdict
abbrev pub judged : {A : Type 0} → (A → ℕ) → List ℕ → LogicOption (A × List ℕ) → Option (ℕ × ℕ)
judged p s none = None
judged p s (some x) = Some (length s - length x.1, p x.0)

abbrev pub judge_to : Format → List ℕ → ℕ → Option (ℕ × ℕ)
judge_to f s at = judged (verdict f) s (read f (drop at s))
