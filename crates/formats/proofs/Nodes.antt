-- A node of a table, by its words: which format stands there.
use mathlib.Core.Path.{◌≡◌, refl, sym, ap, ◌∙◌}
use mathlib.Core.List.{List}
use Prim.Native.Nat.{ℕ, zero, suc, ◌+◌, ◌-◌, ◌*◌, ◌≤◌, ◌<◌}
use native.Mathlib.Omega.{arith}
use lib.ListN.{get_or}
use Rattle.formats.specs.Format.{Format, never, list, choice, ◌&◌}
use Rattle.formats.specs.Promises.Outcome.{node_format, format_at, leaf_format}

-- a kind with no parts does not look at the others
pub leaf_is : (kind a b : ℕ) (sub : ℕ → Format) → kind < 8 → leaf_format kind a b ≡ node_format kind a b sub
leaf_is zero a b sub h = refl
leaf_is (suc zero) a b sub h = refl
leaf_is (suc (suc zero)) a b sub h = refl
leaf_is (suc (suc (suc zero))) a b sub h = refl
leaf_is (suc (suc (suc (suc zero)))) a b sub h = refl
leaf_is (suc (suc (suc (suc (suc zero))))) a b sub h = refl
leaf_is (suc (suc (suc (suc (suc (suc zero)))))) a b sub h = refl
leaf_is (suc (suc (suc (suc (suc (suc (suc zero))))))) a b sub h = refl
leaf_is (suc (suc (suc (suc (suc (suc (suc (suc k)))))))) a b sub h = absurd (omega arith)

node_over : (kind a b : ℕ) (sub : ℕ → Format) → 8 ≤ kind → (kind ≡ 8 → ⊥) → (kind ≡ 9 → ⊥) → (kind ≡ 10 → ⊥)
    → node_format kind a b sub ≡ never
node_over kind a b sub l z₈ z₉ z₁₀ = let e : kind ≡
    (suc (suc (suc (suc (suc (suc (suc (suc (suc (suc (suc (kind - 11)))))))))))) = omega arith in rw e refl

pub node_none : (depth : ℕ) (t : List ℕ) (n : ℕ) → depth ≡ 0 → format_at depth t n ≡ never
node_none depth t n z = rw z refl

module _ (depth : ℕ) (t : List ℕ) (n : ℕ) (z : depth ≡ 0 → ⊥) (kind a b : ℕ)
    (ek : kind ≡ get_or t (4 * n + 0) 0) (ea : a ≡ get_or t (4 * n + 1) 0) (eb : b ≡ get_or t (4 * n + 2) 0) where
  node_is : format_at depth t n ≡ node_format kind a b (format_at (depth - 1) t)
  node_is = let i : depth ≡ suc (depth - 1) = omega arith in ap (λ d. format_at d t n) i ∙ rw (ek, ea, eb) refl

  pub node_leaf : kind < 8 → format_at depth t n ≡ leaf_format kind a b
  node_leaf h = node_is ∙ sym (leaf_is kind a b (format_at (depth - 1) t) h)

  pub node_list : kind ≡ 8 → format_at depth t n ≡ list a (format_at (depth - 1) t b)
  node_list h = node_is ∙ rw h refl

  pub node_choice : kind ≡ 9 → format_at depth t n ≡ choice (format_at (depth - 1) t a) (format_at (depth - 1) t b)
  node_choice h = node_is ∙ rw h refl

  pub node_pair : kind ≡ 10 → format_at depth t n ≡ format_at (depth - 1) t a & format_at (depth - 1) t b
  node_pair h = node_is ∙ rw h refl

  pub node_never : 8 ≤ kind → (kind ≡ 8 → ⊥) → (kind ≡ 9 → ⊥) → (kind ≡ 10 → ⊥) → format_at depth t n ≡ never
  node_never l z₈ z₉ z₁₀ = node_is ∙ node_over kind a b (format_at (depth - 1) t) l z₈ z₉ z₁₀
