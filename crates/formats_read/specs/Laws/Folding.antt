-- Law. A first pass over values of one format: a loop that gathers something of each.
use Rattle.std.specs.Prelude.{◌≡◌, refl, ℕ, ◌-◌, ◌≤◌, ◌<◌, length}
use Rattle.std.proofs.Common.{sym, ap, ◌∙◌}
use mathlib.Core.List.{List, [], ◌∷◌, foldl, foldl-append}
use Rattle.formats.specs.Format.{Format, Value}
use Rattle.formats_read.specs.Promises.Here.{Here}
use Rattle.formats_read.specs.Promises.Lists.{Many}
use Rattle.formats_read.specs.Laws.Walk.{Walk, begin, onward, ended}

-- from b₀ on, b was gathered
abbrev pub Folding : (f : Format) {B : Type 0} (op : B → Value f → B) (s : List ℕ) (a n p left : ℕ) (b₀ b : B) → Type 0
Folding f op s a n p left b₀ b = Walk f s a n p left (λ us. b ≡ foldl op b₀ us)

module _ {f : Format} {B : Type 0} {op : B → Value f → B} {s : List ℕ} {a n : ℕ} {b₀ : B} where
  pub start : Folding f op s a n a n b₀ b₀
  start = begin refl

  pub step : {p left : ℕ} {b b' : B} (e : ℕ) → Folding f op s a n p left b₀ b → 0 < left
      → ((v : Value f) (q : ℕ) → Here f s p q v → e ≡ q) → ((v : Value f) → Here f s p e v → b' ≡ op b v)
      → Folding f op s a n e (left - 1) b₀ b'
  step e W z ends adds =
      onward W e z ends (λ us v d h. adds v h ∙ ap (λ b. op b v) d ∙ sym (foldl-append op b₀ us (v ∷ [])))

  pub stop : {p left : ℕ} {b : B} → Folding f op s a n p left b₀ b → left ≤ 0 → (vs : List (Value f)) (q : ℕ)
      → length vs ≡ n → Many f s a q vs → b ≡ foldl op b₀ vs
  stop W = ended W
