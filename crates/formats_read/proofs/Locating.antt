-- Where the part of a record from a field on begins, by the tests that the code makes.
use Rattle.std.specs.Prelude.{Option, Some, None}
use mathlib.Core.Path.{◌≡◌, refl, sym, ap, ◌∙◌}
use mathlib.Core.List.{List}
use Prim.Native.Nat.{ℕ, zero, suc, ◌+◌, ◌-◌, ◌*◌, ◌<◌}
use native.Mathlib.Omega.{arith}
use lib.ListN.{get_or}
use Rattle.formats.specs.Format.{Format}
use Rattle.formats.specs.Promises.Outcome.{skip_to, node_format, format_at}
use Rattle.formats_read.specs.Promises.Fields.{field_to, onward}

not_pair : (j kind a b : ℕ) (sub : ℕ → Format) (s : List ℕ) (p : ℕ) → (kind ≡ 10 → ⊥)
    → None ≡ field_to (suc j) (node_format kind a b sub) s p
not_pair j zero a b sub s p z = refl
not_pair j (suc zero) a b sub s p z = refl
not_pair j (suc (suc zero)) a b sub s p z = refl
not_pair j (suc (suc (suc zero))) a b sub s p z = refl
not_pair j (suc (suc (suc (suc zero)))) a b sub s p z = refl
not_pair j (suc (suc (suc (suc (suc zero))))) a b sub s p z = refl
not_pair j (suc (suc (suc (suc (suc (suc zero)))))) a b sub s p z = refl
not_pair j (suc (suc (suc (suc (suc (suc (suc zero))))))) a b sub s p z = refl
not_pair j (suc (suc (suc (suc (suc (suc (suc (suc zero)))))))) a b sub s p z = refl
not_pair j (suc (suc (suc (suc (suc (suc (suc (suc (suc zero))))))))) a b sub s p z = refl
not_pair j (suc (suc (suc (suc (suc (suc (suc (suc (suc (suc zero)))))))))) a b sub s p z = absurd (z refl)
not_pair j (suc (suc (suc (suc (suc (suc (suc (suc (suc (suc (suc k))))))))))) a b sub s p z = refl

-- what the part j fields on gives is what the whole gives, x
module _ (j d : ℕ) (t : List ℕ) (n : ℕ) (s : List ℕ) (p : ℕ) {x : Option ℕ}
    (w : field_to j (format_at d t n) s p ≡ x) where
  pub field_none : 0 < j → d ≡ 0 → None ≡ x
  field_none h e = go j h refl ∙ w
    where
      go : (j' : ℕ) → 0 < j' → j ≡ j' → None ≡ field_to j (format_at d t n) s p
      go zero h i = absurd (omega arith)
      go (suc j') h i = rw (e, i) refl

  module _ (h : 0 < j) (z : d ≡ 0 → ⊥) (kind a b : ℕ)
      (ek : kind ≡ get_or t (4 * n + 0) 0) (ea : a ≡ get_or t (4 * n + 1) 0) (eb : b ≡ get_or t (4 * n + 2) 0) where
    by_kind : field_to j (format_at d t n) s p ≡ field_to (suc (j - 1)) (node_format kind a b (format_at (d - 1) t)) s p
    by_kind =
        let i : d ≡ suc (d - 1) = omega arith in
        let k : j ≡ suc (j - 1) = omega arith in
        ap (λ d. field_to j (format_at d t n) s p) i ∙ ap (λ j. field_to j (format_at (suc (d - 1)) t n) s p) k
        ∙ rw (ek, ea, eb) refl

    pub field_other : (kind ≡ 10 → ⊥) → None ≡ x
    field_other k = not_pair (j - 1) kind a b (format_at (d - 1) t) s p k ∙ sym by_kind ∙ w

    module _ (k : kind ≡ 10) (r : Option ℕ) (e : r ≡ skip_to (format_at (d - 1) t a) s p) where
      step : onward r (λ q. field_to (j - 1) (format_at (d - 1) t b) s q) ≡ x
      step = rw e (rw k at (sym by_kind) ∙ w)

      pub field_bad : r ≡ None → None ≡ x
      field_bad f = rw f at step

      pub field_more : (q : ℕ) → r ≡ Some q → field_to (j - 1) (format_at (d - 1) t b) s q ≡ x
      field_more q f = rw f at step
