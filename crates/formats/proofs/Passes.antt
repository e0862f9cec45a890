-- What the interpreter finds at each kind of node, by the tests that the code makes.
use Rattle.std.specs.Prelude.{Option, Some, None}
use mathlib.Core.Path.{◌≡◌, refl, sym, ap, ◌∙◌}
use mathlib.Core.List.{List, ◌∷◌}
use mathlib.Core.Option.{Option as LogicOption, none, some}
use mathlib.Core.Logic.{inl, inr}
use Prim.Native.Nat.{ℕ, zero, suc, ◌+◌, ◌-◌, ◌*◌, ◌≤◌, ◌<◌}
use native.Mathlib.Omega.{arith}
use lib.ListN.{length, drop, get_or}
use borrow.Author.Tests.{le-leb}
use Rattle.formats.specs.Readers.{bind, bytes_r, const_r, many_r}
use Rattle.formats.specs.Number.{number_r, little_r}
use Rattle.formats.specs.Laws.Number.{little_law}
use Rattle.formats.specs.Format.{Format, Value, read}
use Rattle.formats.specs.Promises.Outcome.{element, numbered, skipped, skip_to, skip_many, format_at, leaf_format}
use Rattle.formats.specs.Promises.Outcome.{tag_at}
use Rattle.formats.specs.Laws.Format.{law}
use Rattle.formats.specs.Laws.Outcome.{broken, at_place}
use Rattle.formats.proofs.Numbers.{place, NumberGot, got}
use Rattle.formats.proofs.Parts.{count, Numbered, no_float, no_number, too_large, no_bytes}
use Rattle.formats.proofs.Parts.{an_element, the_one, the_other, no_count, too_many, no_tag, no_first}
use Rattle.formats.proofs.Nodes.{node_leaf, node_list, node_choice, node_pair}

-- nothing was read
pub nothing : {A : Type 0} (s : List ℕ) {o : LogicOption (A × List ℕ)} → o ≡ none → None ≡ skipped s o
nothing s e = sym (ap (skipped s) e)

-- the kinds with no parts
module _ (kind a : ℕ) (s : List ℕ) (at : ℕ) where
  pub leaf_1 : kind ≡ 1 → at ≤ length s → Some at ≡ skip_to (leaf_format kind a 0) s at
  leaf_1 e h = rw (e, place s at h) refl

  module _ (e : kind ≡ 6) (o : Option (ℕ × ℕ)) (r : o ≡ numbered s (little_r 8 (drop at s))) where
    pub leaf_6_bad : o ≡ None → None ≡ skip_to (leaf_format kind a 0) s at
    leaf_6_bad h = nothing s (no_float kind a 0 s at e o r h)

    pub leaf_6 : (n p : ℕ) → o ≡ Some (n, p) → Some p ≡ skip_to (leaf_format kind a 0) s at
    leaf_6 n p h = let g = got (little_law 8) s at n p o r h in rw (e, g.reads, place s p g.within) refl

  pub leaf_7 : (r : Option ℕ) → r ≡ skipped s (const_r a (drop at s)) → kind ≡ 7
      → r ≡ skip_to (leaf_format kind a 0) s at
  leaf_7 r h e = rw e h

module _ (a : ℕ) (s : List ℕ) (at : ℕ) (o : Option (ℕ × ℕ)) (r : o ≡ numbered s (number_r (drop at s))) where
  pub leaf_bad : (kind : ℕ) → o ≡ None → Numbered kind → None ≡ skip_to (leaf_format kind a 0) s at
  leaf_bad kind e k = nothing s (no_number a 0 s at o r kind e k)

  module _ (n p : ℕ) (e : o ≡ Some (n, p)) where
    read_it : NumberGot number_r s at n p
    read_it = count s at n p o r e

    pub leaf_4_over : (kind : ℕ) → kind ≡ 4 → a < n → None ≡ skip_to (leaf_format kind a 0) s at
    leaf_4_over kind k l = nothing s (too_large a 0 s at o r n p e kind k l)

    pub leaf_4 : (kind : ℕ) → kind ≡ 4 → n ≤ a → Some p ≡ skip_to (leaf_format kind a 0) s at
    leaf_4 kind k l = rw (k, read_it.reads, le-leb n a l, place s p read_it.within) refl

    pub leaf_5 : (kind : ℕ) (x : Option ℕ) → x ≡ skipped s (bytes_r n (drop p s)) → kind ≡ 5
        → x ≡ skip_to (leaf_format kind a 0) s at
    leaf_5 kind x f k = rw (k, read_it.reads) f

    pub leaf_23 : (kind : ℕ) → Numbered kind → (kind ≡ 4 → ⊥) → (kind ≡ 5 → ⊥)
        → Some p ≡ skip_to (leaf_format kind a 0) s at
    leaf_23 zero k z₄ z₅ = absurd (omega (arith, k.low))
    leaf_23 (suc zero) k z₄ z₅ = absurd (omega (arith, k.low))
    leaf_23 (suc (suc zero)) k z₄ z₅ = rw (read_it.reads, place s p read_it.within) refl
    leaf_23 (suc (suc (suc zero))) k z₄ z₅ = rw (read_it.reads, place s p read_it.within) refl
    leaf_23 (suc (suc (suc (suc zero)))) k z₄ z₅ = absurd (z₄ refl)
    leaf_23 (suc (suc (suc (suc (suc zero))))) k z₄ z₅ = absurd (z₅ refl)
    leaf_23 (suc (suc (suc (suc (suc (suc m)))))) k z₄ z₅ = absurd (omega (arith, k.high))

-- what a continuation makes of a value does not move the place
moved : {A B : Type 0} (s : List ℕ) (f : A → B) (o : LogicOption (A × List ℕ))
    → skipped s o ≡ skipped s (bind o (λ a t. some (f a, t)))
moved s f none = refl
moved s f (some x) = refl

-- the place that was passed to is in the whole
at_in : (f : Format) (s : List ℕ) (o : LogicOption (Value f × List ℕ)) (p : ℕ) → Some p ≡ skipped s o → p ≤ length s
at_in f s none p e = let z : ◌≡◌ {A = ℕ} 0 1 = cc in absurd (omega arith)
at_in f s (some x) p e = let z : p ≡ length s - length x.1 = cc in omega arith

pub passed_in : (f : Format) (s : List ℕ) (at p : ℕ) (r : Option ℕ) → r ≡ skip_to f s at → r ≡ Some p → p ≤ length s
passed_in f s at p r e h = at_in f s (read f (drop at s)) p (sym h ∙ e)

-- n of one kind: what the whole loop finds is what is found from here on
module _ (f : Format) (s : List ℕ) (n at : ℕ) (r : Option ℕ) (e : r ≡ skip_to f s at) (l : 0 < n) (x : Option ℕ)
    (i : skip_many f n s at ≡ x) where
  module _ (p : ℕ) (h : r ≡ Some p) (k : at ≤ length s) where
    pub many_flat : p ≤ at → None ≡ x
    many_flat j =
        let y = at_place (law f) s at p (sym e ∙ h) in
        nothing s (no_bytes f s n at l p y.0 k (passed_in f s at p r e h) y.1 j) ∙ i

    pub many_more : at < p → skip_many f (n - 1) s p ≡ x
    many_more j =
        let y = at_place (law f) s at p (sym e ∙ h) in
        moved s (λ v. y.0 ∷ v) (many_r (element f) (n - 1) (drop p s))
        ∙ sym (ap (skipped s) (an_element f s n at l p y.0 k (passed_in f s at p r e h) y.1 j)) ∙ i

-- the node at n of the table t
module _ (depth : ℕ) (t : List ℕ) (n : ℕ) (s : List ℕ) (at : ℕ) where
  module _ (z : depth ≡ 0 → ⊥) (kind a b : ℕ) (ek : kind ≡ get_or t (4 * n + 0) 0) (ea : a ≡ get_or t (4 * n + 1) 0)
      (eb : b ≡ get_or t (4 * n + 2) 0) where
    leaf_any : (kind a b : ℕ) → kind < 8 → skip_to (leaf_format kind a 0) s at ≡ skip_to (leaf_format kind a b) s at
    leaf_any zero a b h = refl
    leaf_any (suc zero) a b h = refl
    leaf_any (suc (suc zero)) a b h = refl
    leaf_any (suc (suc (suc zero))) a b h = refl
    leaf_any (suc (suc (suc (suc zero)))) a b h = refl
    leaf_any (suc (suc (suc (suc (suc zero))))) a b h = refl
    leaf_any (suc (suc (suc (suc (suc (suc zero)))))) a b h = refl
    leaf_any (suc (suc (suc (suc (suc (suc (suc zero))))))) a b h = refl
    leaf_any (suc (suc (suc (suc (suc (suc (suc (suc k)))))))) a b h = absurd (omega arith)

    pub pass_leaf : (r : Option ℕ) → r ≡ skip_to (leaf_format kind a 0) s at → kind < 8
        → r ≡ skip_to (format_at depth t n) s at
    pass_leaf r e h = rw (node_leaf depth t n z kind a b ek ea eb h) (e ∙ leaf_any kind a b h)

    -- a list
    module _ (k : kind ≡ 8) (o : Option (ℕ × ℕ)) (r : o ≡ numbered s (number_r (drop at s))) where
      pub list_bad : o ≡ None → None ≡ skip_to (format_at depth t n) s at
      list_bad e = nothing s (no_count depth t n s at z kind a b ek ea eb k o r e)

      module _ (m p : ℕ) (e : o ≡ Some (m, p)) where
        pub list_over : length s - p < m → None ≡ skip_to (format_at depth t n) s at
        list_over l = nothing s (too_many depth t n s at z kind a b ek ea eb k o r m p e l)

        pub list_good : (x : Option ℕ) → x ≡ skip_many (format_at (depth - 1) t b) m s p
            → x ≡ skip_to (format_at depth t n) s at
        list_good x f = rw (node_list depth t n z kind a b ek ea eb k, (count s at m p o r e).reads) f

    -- a choice: byte 0 or byte 1
    module _ (k : kind ≡ 9) (c : ℕ) (e : c ≡ tag_at s at) where
      pub choice_0 : c ≡ 0 → (x : Option ℕ) → x ≡ skip_to (format_at (depth - 1) t a) s (at + 1)
          → x ≡ skip_to (format_at depth t n) s at
      choice_0 i x f =
          let A = format_at (depth - 1) t a in
          let B = format_at (depth - 1) t b in
          rw (node_choice depth t n z kind a b ek ea eb k, the_one A B s at c e i)
          (f ∙ moved s inl (read A (drop (at + 1) s)))

      pub choice_1 : c ≡ 1 → (x : Option ℕ) → x ≡ skip_to (format_at (depth - 1) t b) s (at + 1)
          → x ≡ skip_to (format_at depth t n) s at
      choice_1 i x f =
          let A = format_at (depth - 1) t a in
          let B = format_at (depth - 1) t b in
          rw (node_choice depth t n z kind a b ek ea eb k, the_other A B s at c e i)
          (f ∙ moved s inr (read B (drop (at + 1) s)))

      pub choice_2 : (c ≡ 0 → ⊥) → (c ≡ 1 → ⊥) → None ≡ skip_to (format_at depth t n) s at
      choice_2 i j = nothing s (no_tag depth t n s at z kind a b ek ea eb k c e i j)

    -- one after the other
    module _ (k : kind ≡ 10) (r : Option ℕ) (e : r ≡ skip_to (format_at (depth - 1) t a) s at) where
      pub pair_bad : r ≡ None → None ≡ skip_to (format_at depth t n) s at
      pair_bad h =
          let none_read = broken s (read (format_at (depth - 1) t a) (drop at s)) (sym e ∙ h) in
          nothing s (no_first depth t n s at z kind a b ek ea eb k none_read)

      pub pair_good : (p : ℕ) → r ≡ Some p → (x : Option ℕ) → x ≡ skip_to (format_at (depth - 1) t b) s p
          → x ≡ skip_to (format_at depth t n) s at
      pair_good p h x f =
          let y = at_place (law (format_at (depth - 1) t a)) s at p (sym e ∙ h) in
          rw (node_pair depth t n z kind a b ek ea eb k, y.1)
          (f ∙ moved s (λ v. (y.0, v)) (read (format_at (depth - 1) t b) (drop p s)))
