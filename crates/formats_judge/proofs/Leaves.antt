-- What the judge finds at a node that has no parts, by the tests that the code makes.
use Rattle.std.specs.Prelude.{Option, Some, None}
use mathlib.Core.Path.{◌≡◌, refl, sym, ap, ◌∙◌}
use mathlib.Core.List.{List}
use mathlib.Core.Option.{Option as LogicOption, none, some}
use mathlib.Core.Bool.{◌&&◌}
use Prim.Native.Nat.{ℕ, ◌-◌, ◌≤◌, ◌<◌}
use native.Mathlib.Omega.{arith}
use lib.ListN.{length, drop}
use lib.Dec.{leb}
use borrow.Author.Tests.{le-leb}
use Rattle.formats.specs.Readers.{bytes_r, const_r}
use Rattle.formats.specs.Number.{number_r, little_r, zag}
use Rattle.formats.specs.Laws.Number.{number_law, little_law}
use Rattle.formats.specs.Format.{text}
use Rattle.formats.specs.Promises.Outcome.{numbered, skipped, class_of, leaf_format}
use Rattle.formats.proofs.Numbers.{place, NumberGot, got}
use Rattle.formats.proofs.Parts.{Numbered, no_float, no_number, too_large}
use Rattle.formats_judge.proofs.Rules.{nothing}
use Rattle.formats_judge.specs.Judged.{at_most, answer, verdict, judged, judge_to}
use Rattle.formats_judge.specs.Promises.Judged.{text_answer}
use Rattle.formats_judge.specs.Laws.Joins.{text_limit}

-- an answer of `formats`, judged
skip_both : {C : Type 0} {q : ℕ} → None ≡ Some q → C
skip_both e = absurd (let z : ◌≡◌ {A = ℕ} 0 1 = cc in omega arith)

judged_bad : {A : Type 0} (p : A → ℕ) (s : List ℕ) (o : LogicOption (A × List ℕ)) (r : Option ℕ) → r ≡ skipped s o
    → r ≡ None → None ≡ judged p s o
judged_bad p s none r e h = refl
judged_bad p s (some x) r e h = skip_both (sym h ∙ e)

judged_good : {A : Type 0} (s : List ℕ) (o : LogicOption (A × List ℕ)) (r : Option ℕ) (q : ℕ) → r ≡ skipped s o
    → r ≡ Some q
    → Some (q, 0) ≡ judged (λ v. 0) s o
judged_good s none r q e h = skip_both (sym e ∙ h)
judged_good s (some x) r q e h = let i : q ≡ length s - length x.1 = cc in ap (λ n. Some (n, 0)) i

module _ (kind a b : ℕ) (s : List ℕ) (at : ℕ) where
  pub leaf_1 : kind ≡ 1 → at ≤ length s → Some (at, 0) ≡ judge_to (leaf_format kind a b) s at
  leaf_1 e h = rw (e, place s at h) refl

  module _ (e : kind ≡ 6) (o : Option (ℕ × ℕ)) (r : o ≡ numbered s (little_r 8 (drop at s))) where
    pub leaf_6_bad : o ≡ None → None ≡ judge_to (leaf_format kind a b) s at
    leaf_6_bad h = nothing (verdict (leaf_format kind a b)) s (no_float kind a b s at e o r h)

    pub leaf_6 : (n p : ℕ) → o ≡ Some (n, p) → Some (p, 0) ≡ judge_to (leaf_format kind a b) s at
    leaf_6 n p h = let g = got (little_law 8) s at n p o r h in rw (e, g.reads, place s p g.within) refl

  module _ (e : kind ≡ 7) (r : Option ℕ) (h : r ≡ skipped s (const_r a (drop at s))) where
    pub leaf_7_bad : r ≡ None → None ≡ judge_to (leaf_format kind a b) s at
    leaf_7_bad k = rw e (judged_bad (λ v. 0) s (const_r a (drop at s)) r h k)

    pub leaf_7 : (q : ℕ) → r ≡ Some q → Some (q, 0) ≡ judge_to (leaf_format kind a b) s at
    leaf_7 q k = rw e (judged_good s (const_r a (drop at s)) r q h k)

module _ (a b : ℕ) (s : List ℕ) (at : ℕ) (o : Option (ℕ × ℕ)) (r : o ≡ numbered s (number_r (drop at s))) where
  pub leaf_bad : (kind : ℕ) → o ≡ None → Numbered kind → None ≡ judge_to (leaf_format kind a b) s at
  leaf_bad kind e k = nothing (verdict (leaf_format kind a b)) s (no_number a b s at o r kind e k)

  module _ (n p : ℕ) (e : o ≡ Some (n, p)) (kind : ℕ) where
    number : NumberGot number_r s at n p
    number = got number_law s at n p o r e

    pub leaf_2 : (y : ℕ) → y ≡ answer 6 (leb a n && leb n b) → kind ≡ 2
        → Some (p, y) ≡ judge_to (leaf_format kind a b) s at
    leaf_2 y f k = rw (k, number.reads, place s p number.within) (ap (λ other. Some (p, other)) f)

    pub leaf_3 : (y : ℕ) → y ≡ answer 6 (at_most (zag a) (zag n) && at_most (zag n) (zag b)) → kind ≡ 3
        → Some (p, y) ≡ judge_to (leaf_format kind a b) s at
    leaf_3 y f k = rw (k, number.reads, place s p number.within) (ap (λ other. Some (p, other)) f)

    pub leaf_4_over : kind ≡ 4 → a < n → None ≡ judge_to (leaf_format kind a b) s at
    leaf_4_over k l = nothing (verdict (leaf_format kind a b)) s (too_large a b s at o r n p e kind k l)

    pub leaf_4 : kind ≡ 4 → n ≤ a → Some (p, 0) ≡ judge_to (leaf_format kind a b) s at
    leaf_4 k l = rw (k, number.reads, le-leb n a l, place s p number.within) refl

-- what is left of the kinds is a text
is_text : (kind : ℕ) → Numbered kind → (kind ≡ 2 → ⊥) → (kind ≡ 3 → ⊥) → (kind ≡ 4 → ⊥) → kind ≡ 5
is_text kind k z₂ z₃ z₄ = omega (arith, k.low, k.high)

pub leaf_5 : (a b : ℕ) (s : List ℕ) (at : ℕ) (o : Option (ℕ × ℕ)) → o ≡ numbered s (number_r (drop at s)) → (n p : ℕ)
    → o ≡ Some (n, p)
    → (kind : ℕ) → Numbered kind → (kind ≡ 2 → ⊥) → (kind ≡ 3 → ⊥) → (kind ≡ 4 → ⊥)
    → (x : Option (ℕ × ℕ)) → x ≡ judged (text_answer a (class_of b)) s (bytes_r n (drop p s))
    → x ≡ judge_to (leaf_format kind a b) s at
leaf_5 a b s at o r n p e kind k z₂ z₃ z₄ x f =
    rw (is_text kind k z₂ z₃ z₄, (got number_law s at n p o r e).reads) (f ∙ alike (bytes_r n (drop p s)))
  where
    alike : (y : LogicOption (List ℕ × List ℕ))
        → judged (text_answer a (class_of b)) s y ≡ judged (verdict (text a (class_of b))) s y
    alike none = refl
    alike (some y) = ap (λ other. Some (length s - length y.1, other)) (sym (text_limit a (class_of b) y.0))
