-- Law. The judge's place is the form's end; by the kind's number it is that kind's form.
use Rattle.std.specs.Prelude.{◌≡◌, ℕ, zero, suc, Option, Some, None}
use Rattle.std.proofs.Math.Path.{refl, ap}
use Rattle.std.proofs.Common.{sym, ◌∙◌, arith}
use mathlib.Core.List.{List}
use Rattle.std.proofs.Math.Option.{Option as LogicOption, none, some}
use Rattle.formats.specs.Format.{Value, read}
use Rattle.formats_judge.specs.Judged.{judged, verdict, judge_to}
use Rattle.panel.specs.End.{form_of, taken, end}

-- where a judge's answer says that a form ends
abbrev place_of : Option (ℕ × ℕ) → ℕ
place_of None = 0
place_of (Some (p, n)) = p

module _ (kind : ℕ) (s : List ℕ) {r : Option (ℕ × ℕ)} (j : r ≡ judge_to (form_of kind) s 0) where
  end_is : place_of r ≡ end kind s
  unfolding end
  end_is = ap place_of j ∙ go (read (form_of kind) s)
    where
      go : (o : LogicOption (Value (form_of kind) × List ℕ))
          → place_of (judged (verdict (form_of kind)) s o) ≡ taken s o
      go none = refl
      go (some (v, rest)) = refl

  pub end_at : {p n : ℕ} → r ≡ Some (p, n) → p ≡ end kind s
  end_at e = sym (ap place_of e) ∙ end_is

  pub end_broken : r ≡ None → 0 ≡ end kind s
  end_broken e = sym (ap place_of e) ∙ end_is

-- BY THE KIND
pub of_kind : {kind k : ℕ} (s : List ℕ) {r : Option (ℕ × ℕ)} → kind ≡ k → r ≡ judge_to (form_of k) s 0
    → r ≡ judge_to (form_of kind) s 0
of_kind s e j = j ∙ ap (λ k. judge_to (form_of k) s 0) (sym e)

pub no_kind : (kind : ℕ) (s : List ℕ) → (kind ≡ 0 → ⊥) → (kind ≡ 1 → ⊥) → (kind ≡ 2 → ⊥)
    → None ≡ judge_to (form_of kind) s 0
no_kind zero s a b c = absurd (a refl)
no_kind (suc zero) s a b c = absurd (b refl)
no_kind (suc (suc zero)) s a b c = absurd (c refl)
no_kind (suc (suc (suc kind))) s a b c = refl
