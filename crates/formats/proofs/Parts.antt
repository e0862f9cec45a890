-- What is read at a node, by the tests that an interpreter makes. It is said of the reading itself, so that each
-- interpreter cites it, whatever it answers. Assumes nothing.
use Rattle.std.specs.Prelude.{Option, Some, None}
use mathlib.Core.Path.{◌≡◌, refl, ap}
use mathlib.Core.List.{List, ◌∷◌}
use mathlib.Core.Option.{none, some}
use mathlib.Core.Logic.{inl, inr}
use mathlib.Core.Bool.{Bool, true, false}
use Prim.Native.Nat.{ℕ, zero, suc, ◌+◌, ◌-◌, ◌*◌, ◌≤◌, ◌<◌}
use native.Mathlib.Omega.{arith}
use lib.ListN.{length, drop, get_or, length-append, length-drop, drop_of_length-le}
use lib.Dec.{ltb}
use borrow.Author.Tests.{lt-ltb, le-ltb, ltb-true, ltb-false, lt-leb, ne_eqb}
use Rattle.formats.specs.Readers.{bind, many_r}
use Rattle.formats.specs.Number.{number_r, little_r}
use Rattle.formats.specs.Laws.Number.{number_law}
use Rattle.formats.specs.Format.{Format, choice, Value, write, read}
use Rattle.formats.specs.Promises.Outcome.{element, numbered, format_at, leaf_format, tag_at}
use Rattle.formats.specs.Laws.Format.{law, count_over}
use Rattle.formats.proofs.Numbers.{opened, NumberGot, got, bad_none}
use Rattle.formats.proofs.Nodes.{node_list, node_choice, node_pair, node_never, node_none}

-- a tag
pub tag_at_fits : (s : List ℕ) (at c : ℕ) → c ≡ tag_at s at → c < 2 → (at < length s) × (c ≡ get_or s at 0)
tag_at_fits s at c e l = go (ltb at (length s)) refl
  where
    go : (t : Bool) → ltb at (length s) ≡ t → (at < length s) × (c ≡ get_or s at 0)
    go true q = (ltb-true at (length s) q, rw (q, tag_at) at e)
    go false q = let z : c ≡ 2 = rw (q, tag_at) at e in absurd (omega arith)

-- a number was got
pub count : (s : List ℕ) (at n p : ℕ) (o : Option (ℕ × ℕ)) → o ≡ numbered s (number_r (drop at s)) → o ≡ Some (n, p)
    → NumberGot number_r s at n p
count s at n p o r e = got number_law s at n p o r e

-- one of the kinds 2 to 5, which begin with a number
pub record Numbered (kind : ℕ) : Type 0 where
  pub low : 2 ≤ kind
  pub high : kind ≤ 5

pub begins : (kind : ℕ) → kind < 8 → (kind ≡ 0 → ⊥) → (kind ≡ 1 → ⊥) → (kind ≡ 6 → ⊥) → (kind ≡ 7 → ⊥) → Numbered kind
begins kind h z₀ z₁ z₆ z₇ = record { low = omega arith; high = omega arith }

-- nothing is read: of the kinds with no parts
module _ (kind a b : ℕ) (s : List ℕ) (at : ℕ) where
  pub no_value : kind ≡ 0 → read (leaf_format kind a b) (drop at s) ≡ none
  no_value e = rw e refl

  pub no_float : kind ≡ 6 → (o : Option (ℕ × ℕ)) → o ≡ numbered s (little_r 8 (drop at s)) → o ≡ None
      → read (leaf_format kind a b) (drop at s) ≡ none
  no_float e o r h = rw (e, bad_none s (little_r 8 (drop at s)) o r h) refl

module _ (a b : ℕ) (s : List ℕ) (at : ℕ) (o : Option (ℕ × ℕ)) (r : o ≡ numbered s (number_r (drop at s))) where
  number_go : (kind : ℕ) → number_r (drop at s) ≡ none → 2 ≤ kind → kind ≤ 5
      → read (leaf_format kind a b) (drop at s) ≡ none
  number_go zero e l h = absurd (omega arith)
  number_go (suc zero) e l h = absurd (omega arith)
  number_go (suc (suc zero)) e l h = rw e refl
  number_go (suc (suc (suc zero))) e l h = rw e refl
  number_go (suc (suc (suc (suc zero)))) e l h = rw e refl
  number_go (suc (suc (suc (suc (suc zero))))) e l h = rw e refl
  number_go (suc (suc (suc (suc (suc (suc k)))))) e l h = absurd (omega arith)

  pub no_number : (kind : ℕ) → o ≡ None → Numbered kind → read (leaf_format kind a b) (drop at s) ≡ none
  no_number kind e k = number_go kind (bad_none s (number_r (drop at s)) o r e) k.low k.high

  pub too_large : (n p : ℕ) → o ≡ Some (n, p) → (kind : ℕ) → kind ≡ 4 → a < n
      → read (leaf_format kind a b) (drop at s) ≡ none
  too_large n p e kind k l = rw (k, (count s at n p o r e).reads, lt-leb n a l) refl

-- a value was passed: it takes the bytes up to the place past it
pub took : (f : Format) (s : List ℕ) (at p : ℕ) (v : Value f) → at ≤ length s → p ≤ length s
    → read f (drop at s) ≡ some (v, drop p s) → length (write f v) ≡ p - at
took f s at p v h k e =
    let b = ((law f).back (drop at s) v (drop p s) e).0 in
    let n : length s - at ≡ length (write f v) + (length s - p) =
    rw (length-drop, length-append, length-drop) at (ap length b) in
    omega arith

-- n of one kind, of which the first is not there, takes no bytes, or is there
module _ (f : Format) (s : List ℕ) (n at : ℕ) (l : 0 < n) where
  many_is : many_r (element f) n (drop at s)
      ≡ bind (element f (drop at s)) (λ a t. bind (many_r (element f) (n - 1) t) (λ v u. some (a ∷ v, u)))
  many_is = let i : n ≡ suc (n - 1) = omega arith in ap (λ n. many_r (element f) n (drop at s)) i

  pub no_element : read f (drop at s) ≡ none → many_r (element f) n (drop at s) ≡ none
  no_element e = rw (many_is, e) refl

  module _ (p : ℕ) (v : Value f) (k : at ≤ length s) (h : p ≤ length s)
      (e : read f (drop at s) ≡ some (v, drop p s)) where
    pub no_bytes : p ≤ at → many_r (element f) n (drop at s) ≡ none
    no_bytes j = rw (many_is, e, le-ltb 0 (length (write f v)) (omega (arith, took f s at p v k h e))) refl

    pub an_element : at < p
        → many_r (element f) n (drop at s) ≡ bind (many_r (element f) (n - 1) (drop p s)) (λ w u. some (v ∷ w, u))
    an_element j = rw (many_is, e, lt-ltb 0 (length (write f v)) (omega (arith, took f s at p v k h e))) refl

-- byte 0 or byte 1 of a choice
module _ (A B : Format) (s : List ℕ) (at c : ℕ) (e : c ≡ tag_at s at) where
  pub the_one : c ≡ 0 → read (choice A B) (drop at s) ≡ bind (read A (drop (at + 1) s)) (λ v t. some (inl v, t))
  the_one i = let h = tag_at_fits s at c e (omega arith) in rw (opened s at c h.0 h.1, i) refl

  pub the_other : c ≡ 1 → read (choice A B) (drop at s) ≡ bind (read B (drop (at + 1) s)) (λ v t. some (inr v, t))
  the_other i = let h = tag_at_fits s at c e (omega arith) in rw (opened s at c h.0 h.1, i) refl

  pub no_choice : (c ≡ 0 → ⊥) → (c ≡ 1 → ⊥) → read (choice A B) (drop at s) ≡ none
  no_choice i j = go (ltb at (length s)) refl
    where
      go : (q : Bool) → ltb at (length s) ≡ q → read (choice A B) (drop at s) ≡ none
      go true q = rw (opened s at c (ltb-true at (length s) q) (rw (q, tag_at) at e), ne_eqb c 0 i, ne_eqb c 1 j) refl
      go false q = rw (drop_of_length-le s (ltb-false at (length s) q)) refl

-- nothing is read: of the node at n of the table t
module _ (depth : ℕ) (t : List ℕ) (n : ℕ) (s : List ℕ) (at : ℕ) where
  pub no_depth : depth ≡ 0 → read (format_at depth t n) (drop at s) ≡ none
  no_depth z = rw (node_none depth t n z) refl

  module _ (z : depth ≡ 0 → ⊥) (kind a b : ℕ)
      (ek : kind ≡ get_or t (4 * n + 0) 0) (ea : a ≡ get_or t (4 * n + 1) 0) (eb : b ≡ get_or t (4 * n + 2) 0) where
    module _ (k : kind ≡ 8) (o : Option (ℕ × ℕ)) (r : o ≡ numbered s (number_r (drop at s))) where
      pub no_count : o ≡ None → read (format_at depth t n) (drop at s) ≡ none
      no_count e = rw (node_list depth t n z kind a b ek ea eb k, bad_none s (number_r (drop at s)) o r e) refl

      pub too_many : (m p : ℕ) → o ≡ Some (m, p) → length s - p < m → read (format_at depth t n) (drop at s) ≡ none
      too_many m p e l =
          rw (
            node_list depth t n z kind a b ek ea eb k,
            (count s at m p o r e).reads,
            count_over (format_at (depth - 1) t b) m (drop p s) (rw length-drop l),
          ) refl

    pub no_tag : kind ≡ 9 → (c : ℕ) → c ≡ tag_at s at → (c ≡ 0 → ⊥) → (c ≡ 1 → ⊥)
        → read (format_at depth t n) (drop at s) ≡ none
    no_tag k c e i j =
        rw (node_choice depth t n z kind a b ek ea eb k)
        (no_choice (format_at (depth - 1) t a) (format_at (depth - 1) t b) s at c e i j)

    pub no_first : kind ≡ 10 → read (format_at (depth - 1) t a) (drop at s) ≡ none
        → read (format_at depth t n) (drop at s) ≡ none
    no_first k e = rw (node_pair depth t n z kind a b ek ea eb k, e) refl

    pub no_kind : 8 ≤ kind → (kind ≡ 8 → ⊥) → (kind ≡ 9 → ⊥) → (kind ≡ 10 → ⊥)
        → read (format_at depth t n) (drop at s) ≡ none
    no_kind l z₈ z₉ z₁₀ = rw (node_never depth t n z kind a b ek ea eb l z₈ z₉ z₁₀) refl
