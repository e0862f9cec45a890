-- What the judge finds at a node that has parts, by the tests that the code makes.
use Rattle.std.proofs.lemmas.Option.{some_pair_parts}
use Rattle.std.specs.Prelude.{Option, Some, None}
use mathlib.Core.Path.{◌≡◌, refl, sym, ap, ◌∙◌}
use mathlib.Core.List.{List, ◌∷◌}
use mathlib.Core.Option.{Option as LogicOption, none, some}
use mathlib.Core.Logic.{inl, inr}
use Prim.Native.Nat.{ℕ, ◌+◌, ◌-◌, ◌*◌, ◌≤◌, ◌<◌}
use native.Mathlib.Omega.{arith}
use lib.ListN.{length, drop, get_or}
use lib.Dec.{leb}
use Rattle.formats.specs.Readers.{Reader, bind, many_r}
use Rattle.formats.specs.Laws.Law.{Law, many_law}
use Rattle.formats.specs.Number.{number_r}
use Rattle.formats.specs.Format.{Format, list, choice, ◌&◌, Value, read}
use Rattle.formats.specs.Promises.Outcome.{element, numbered, tag_at, format_at, leaf_format}
use Rattle.formats.specs.Laws.Format.{law, element_law}
use Rattle.formats.specs.Laws.Outcome.{suffix}
use Rattle.formats.proofs.Numbers.{place}
use Rattle.formats.proofs.Nodes.{node_leaf, node_list, node_choice, node_pair}
use Rattle.formats.proofs.Parts.{count, no_bytes, an_element, the_one, the_other, no_count}
use Rattle.formats.proofs.Parts.{too_many, no_tag, no_first}
use Rattle.formats_judge.specs.Judged.{answer, verdict, judged, judge_to}
use Rattle.formats_judge.specs.Promises.Judged.{verdicts, sooner, judge_many, judged_after}
use Rattle.formats_judge.specs.Laws.Joins.{sooner_assoc, verdict_pair, verdict_more, verdict_list}
use Rattle.formats_judge.proofs.Rules.{nothing, sooner_none}

-- an answer taken apart
broken_at : {C : Type 0} {q x : ℕ} → ◌≡◌ {A = Option (ℕ × ℕ)} None (Some (q, x)) → C
broken_at e = absurd (let z : ◌≡◌ {A = ℕ} 0 1 = cc in omega arith)

judged_none : {A : Type 0} (p : A → ℕ) (s : List ℕ) (o : LogicOption (A × List ℕ)) (r : Option (ℕ × ℕ))
    → r ≡ judged p s o
    → r ≡ None → o ≡ none
judged_none p s none r e h = refl
judged_none p s (some x) r e h = broken_at (sym h ∙ e)

-- a value was judged: what is left is the whole past the place
record ValueJudged {A : Type 0} (rd : Reader A) (g : A → ℕ) (s : List ℕ) (at q x : ℕ) : Type 0 where
  value : A
  reads : rd (drop at s) ≡ some (value, drop q s)
  rules : x ≡ g value
  within : q ≤ length s

module _ {A : Type 0} {w : A → List ℕ} {rd : Reader A} {fits : A → Type 0} (l : Law w rd fits) (g : A → ℕ) (s : List ℕ)
    (at : ℕ) where
  found_go : (o : LogicOption (A × List ℕ)) → rd (drop at s) ≡ o → (r : Option (ℕ × ℕ)) (q x : ℕ) → r ≡ judged g s o
      → r ≡ Some (q, x)
      → ValueJudged rd g s at q x
  found_go none e r q x h k = broken_at (sym h ∙ k)
  found_go (some y) e r q x h k =
      let f = some_pair_parts _ _ _ _ (sym h ∙ k) in
      let i : length s - length y.1 ≡ q = f.0 in
      let j : x ≡ g y.0 = sym f.1 in
      record {
        value = y.0;
        reads = e ∙ ap {B = LogicOption (A × List ℕ)} (λ t. some (y.0, t))
            (suffix at s (w y.0) y.1 (l.back (drop at s) y.0 y.1 e).0 ∙ ap (λ n. drop n s) i);
        rules = j;
        within = omega (arith, i);
      }

  found : (r : Option (ℕ × ℕ)) (q x : ℕ) → r ≡ judged g s (rd (drop at s)) → r ≡ Some (q, x) → ValueJudged rd g s at q x
  found r q x h k = found_go (rd (drop at s)) refl r q x h k

pub judged_in : (f : Format) (s : List ℕ) (at p x : ℕ) (r : Option (ℕ × ℕ)) → r ≡ judge_to f s at → r ≡ Some (p, x)
    → p ≤ length s
judged_in f s at p x r e h = (found (law f) (verdict f) s at r p x e h).within

-- past the first, the rest is judged after its verdict
joined : {A B : Type 0} (f : A → B) (g : A → ℕ) (h : B → ℕ) (x : ℕ) (s : List ℕ) (o : LogicOption (A × List ℕ))
    → ((a : A) → sooner x (g a) ≡ h (f a)) → judged_after x (judged g s o) ≡ judged h s (bind o (λ a t. some (f a, t)))
joined f g h x s none e = refl
joined f g h x s (some y) e = ap (λ other. Some (length s - length y.1, other)) (e y.0)

same : {A B : Type 0} (f : A → B) (g : A → ℕ) (h : B → ℕ) (s : List ℕ) (o : LogicOption (A × List ℕ))
    → ((a : A) → g a ≡ h (f a)) → judged g s o ≡ judged h s (bind o (λ a t. some (f a, t)))
same f g h s none e = refl
same f g h s (some y) e = ap (λ other. Some (length s - length y.1, other)) (e y.0)

after_after : (x y : ℕ) (r : Option (ℕ × ℕ)) → judged_after x (judged_after y r) ≡ judged_after (sooner x y) r
after_after x y None = refl
after_after x y (Some (p, z)) = ap (λ other. Some (p, other)) (sooner_assoc x y z)

-- n of one kind: what the whole loop finds is what is found from here on
pub many_none : (f : Format) (s : List ℕ) (n at g : ℕ) (y : Option (ℕ × ℕ))
    → judged_after g (judge_many f n s at) ≡ y → n ≤ 0
    → at ≤ length s → Some (at, g) ≡ y
many_none f s n at g y i l h =
    let e : n ≡ 0 = omega arith in
    let j : Some (at, sooner g 0) ≡ judged_after g (judge_many f n s at) = rw (e, place s at h) refl in
    ap (λ other. Some (at, other)) (sooner_none g 0 refl) ∙ j ∙ i

module _ (f : Format) (s : List ℕ) (n at g : ℕ) (r : Option (ℕ × ℕ)) (e : r ≡ judge_to f s at) (l : 0 < n)
    (y : Option (ℕ × ℕ))
    (i : judged_after g (judge_many f n s at) ≡ y) where
  module _ (p x : ℕ) (h : r ≡ Some (p, x)) (k : at ≤ length s) where
    one : ValueJudged (read f) (verdict f) s at p x
    one = found (law f) (verdict f) s at r p x e h

    pub many_flat : p ≤ at → None ≡ y
    many_flat j =
        let none_read = no_bytes f s n at l p one.value k one.within one.reads j in
        ap (judged_after g) (nothing (verdicts f) s none_read) ∙ i

    pub many_more : at < p → (z : ℕ) → z ≡ sooner g x → judged_after z (judge_many f (n - 1) s p) ≡ y
    many_more j z c =
        let m : judged_after x (judge_many f (n - 1) s p) ≡ judge_many f n s at =
        joined (λ v. one.value ∷ v) (verdicts f) (verdicts f) x s (many_r (element f) (n - 1) (drop p s))
        (λ v. ap (λ t. sooner t (verdicts f v)) one.rules ∙ verdict_more f one.value v)
        ∙ sym (ap (judged (verdicts f) s) (an_element f s n at l p one.value k one.within one.reads j)) in
        ap (λ t. judged_after t (judge_many f (n - 1) s p)) c ∙ sym (after_after g x (judge_many f (n - 1) s p))
        ∙ ap (judged_after g) m ∙ i

-- the count of a list, and then its values
list_go : (l : ℕ) (f : Format) (s t : List ℕ) (n : ℕ) (o : LogicOption (List (Value f) × List ℕ))
    → many_r (element f) n t ≡ o
    → judged_after (answer 7 (leb n l)) (judged (verdicts f) s o) ≡ judged (verdict (list l f)) s o
list_go l f s t n none e = refl
list_go l f s t n (some y) e =
    let m : length y.0 ≡ n = ((many_law (element_law f) n).back t y.0 y.1 e).1.0 in
    ap (λ other. Some (length s - length y.1, other)) (rw (← m) (verdict_list l f y.0))

-- the node at n of the table t
module _ (depth : ℕ) (t : List ℕ) (n : ℕ) (s : List ℕ) (at : ℕ) where
  module _ (z : depth ≡ 0 → ⊥) (kind a b : ℕ) (ek : kind ≡ get_or t (4 * n + 0) 0) (ea : a ≡ get_or t (4 * n + 1) 0)
      (eb : b ≡ get_or t (4 * n + 2) 0) where
    pub value_leaf : (r : Option (ℕ × ℕ)) → r ≡ judge_to (leaf_format kind a b) s at → kind < 8
        → r ≡ judge_to (format_at depth t n) s at
    value_leaf r e h = rw (node_leaf depth t n z kind a b ek ea eb h) e

    module _ (k : kind ≡ 8) (o : Option (ℕ × ℕ)) (r : o ≡ numbered s (number_r (drop at s))) where
      pub list_bad : o ≡ None → None ≡ judge_to (format_at depth t n) s at
      list_bad e =
          nothing (verdict (format_at depth t n)) s (no_count depth t n s at z kind a b ek ea eb k o r e)

      module _ (m p : ℕ) (e : o ≡ Some (m, p)) where
        pub list_over : length s - p < m → None ≡ judge_to (format_at depth t n) s at
        list_over l =
            nothing (verdict (format_at depth t n)) s (too_many depth t n s at z kind a b ek ea eb k o r m p e l)

        pub list_good : (x : ℕ) → x ≡ answer 7 (leb m a) → (y : Option (ℕ × ℕ))
            → y ≡ judged_after x (judge_many (format_at (depth - 1) t b) m s p)
            → y ≡ judge_to (format_at depth t n) s at
        list_good x c y f =
            let g = format_at (depth - 1) t b in
            rw (node_list depth t n z kind a b ek ea eb k, (count s at m p o r e).reads)
            (f ∙ ap (λ u. judged_after u (judge_many g m s p)) c
            ∙ list_go a g s (drop p s) m (many_r (element g) m (drop p s)) refl)

    module _ (k : kind ≡ 9) (c : ℕ) (e : c ≡ tag_at s at) where
      pub choice_0 : c ≡ 0 → (x : Option (ℕ × ℕ)) → x ≡ judge_to (format_at (depth - 1) t a) s (at + 1)
          → x ≡ judge_to (format_at depth t n) s at
      choice_0 i x f =
          let A = format_at (depth - 1) t a in
          let B = format_at (depth - 1) t b in
          rw (node_choice depth t n z kind a b ek ea eb k, the_one A B s at c e i)
          (f ∙ same inl (verdict A) (verdict (choice A B)) s (read A (drop (at + 1) s)) (λ v. refl))

      pub choice_1 : c ≡ 1 → (x : Option (ℕ × ℕ)) → x ≡ judge_to (format_at (depth - 1) t b) s (at + 1)
          → x ≡ judge_to (format_at depth t n) s at
      choice_1 i x f =
          let A = format_at (depth - 1) t a in
          let B = format_at (depth - 1) t b in
          rw (node_choice depth t n z kind a b ek ea eb k, the_other A B s at c e i)
          (f ∙ same inr (verdict B) (verdict (choice A B)) s (read B (drop (at + 1) s)) (λ v. refl))

      pub choice_2 : (c ≡ 0 → ⊥) → (c ≡ 1 → ⊥) → None ≡ judge_to (format_at depth t n) s at
      choice_2 i j =
          nothing (verdict (format_at depth t n)) s (no_tag depth t n s at z kind a b ek ea eb k c e i j)

    module _ (k : kind ≡ 10) (r : Option (ℕ × ℕ)) (e : r ≡ judge_to (format_at (depth - 1) t a) s at) where
      pub pair_bad : r ≡ None → None ≡ judge_to (format_at depth t n) s at
      pair_bad h =
          let A = format_at (depth - 1) t a in
          let none_read = judged_none (verdict A) s (read A (drop at s)) r e h in
          nothing (verdict (format_at depth t n)) s (no_first depth t n s at z kind a b ek ea eb k none_read)

      module _ (p x : ℕ) (h : r ≡ Some (p, x)) (y : Option (ℕ × ℕ))
          (f : y ≡ judge_to (format_at (depth - 1) t b) s p) where
        halves : judged_after x y ≡ judge_to (format_at depth t n) s at
        halves =
            let A = format_at (depth - 1) t a in
            let B = format_at (depth - 1) t b in
            let d = found (law A) (verdict A) s at r p x e h in
            rw (node_pair depth t n z kind a b ek ea eb k, d.reads, f)
            (joined (λ v. (d.value, v)) (verdict B) (verdict (A & B)) x s (read B (drop p s))
            (λ v. ap (λ u. sooner u (verdict B v)) d.rules ∙ verdict_pair A B (d.value, v)))

        pub pair_bad_2 : y ≡ None → None ≡ judge_to (format_at depth t n) s at
        pair_bad_2 g = sym (ap (judged_after x) g) ∙ halves

        pub pair_good : (q u w : ℕ) → y ≡ Some (q, u) → w ≡ sooner x u
            → Some (q, w) ≡ judge_to (format_at depth t n) s at
        pair_good q u w g c = ap (λ other. Some (q, other)) c ∙ sym (ap (judged_after x) g) ∙ halves
