-- Law. A message that is within questions 5 and 6, taken apart: its parts, merged and repeated, are within them too.
use Rattle.std.specs.Prelude.{◌≡◌, refl, Bool, true, false, cond, List, [], ◌∷◌, eqb, length}
use Rattle.std.proofs.Math.Option.{Option, none, some, map}
use Prim.Native.Nat.{ℕ, zero, suc}
use Rattle.std.proofs.Common.{eqb-true}
use Rattle.wire.specs.Wire.{Value, VARINT, I64, LEN, GROUP, I32, Field, fields}
use Rattle.basics.specs.Lists.{All}
use Rattle.basics.specs.Laws.Options.{none_some}
use Rattle.basics.specs.Laws.Booleans.{both_true}
use Rattle.realtime.specs.Tree.{Kind, a_number, a_text, a_message, Schema, Tree, end, num, txt, msg, Leaf, count, words}
use Rattle.realtime.specs.Tree.{add_number, add_text, add_message, add_field, build, nest, tree, join, last, sub, rep}
use Rattle.basics.specs.Options.{bind_o, or_else}
use Rattle.realtime.specs.Judge.{Rules, texts_fine, numbers_fine}

-- a tree of type t, whose messages are of the types that the schema lists, and whose texts and numbers are within
-- the rules
abbrev pub FineTree : Schema → Rules → ℕ → Tree → Type 0
FineTree σ ρ t end = Unit {0}
FineTree σ ρ t (num f n r) = (ρ.number t f n ≡ true) × FineTree σ ρ t r
FineTree σ ρ t (txt f x r) = (ρ.text t f x ≡ true) × FineTree σ ρ t r
FineTree σ ρ t (msg f u m r) = (σ t f ≡ some (a_message u)) × FineTree σ ρ u m × FineTree σ ρ t r

-- ---- what is read has the schema's types

abbrev Typed : Schema → ℕ → Tree → Type 0
Typed σ t end = Unit {0}
Typed σ t (num f n r) = Typed σ t r
Typed σ t (txt f x r) = Typed σ t r
Typed σ t (msg f u m r) = (σ t f ≡ some (a_message u)) × Typed σ u m × Typed σ t r

map_some : {A B : Type 0} (f : A → B) (o : Option A) (b : B) → map f o ≡ some b
    → (a : A) × (o ≡ some a) × (f a ≡ b)
map_some f none b e = none_some e
map_some f (some a) b e = (a, refl, (let z : f a ≡ b = cc in z))

bind_some : {A B : Type 0} (o : Option A) (q : A → Option B) (b : B) → bind_o o q ≡ some b
    → (a : A) × (o ≡ some a) × (q a ≡ some b)
bind_some none q b e = none_some e
bind_some (some a) q b e = (a, refl, e)

module _ (σ : Schema) where
  module _ (inner : ℕ → List ℕ → Option Tree)
      (typed : (u : ℕ) (s : List ℕ) (m : Tree) → inner u s ≡ some m → Typed σ u m) (t : ℕ) where
    put_number : (f : ℕ) (v : Value) (o : Option Tree) (m : Tree) → ((r : Tree) → o ≡ some r → Typed σ t r)
        → add_number f v o ≡ some m → Typed σ t m
    put_number f (VARINT n) o m h e = let (r, a, b) = map_some (num f n) o m e in rw (← b) (h r a)
    put_number f (I64 x) o m h e = none_some e
    put_number f (LEN x) o m h e = none_some e
    put_number f GROUP o m h e = none_some e
    put_number f (I32 x) o m h e = none_some e

    put_text : (f : ℕ) (v : Value) (o : Option Tree) (m : Tree) → ((r : Tree) → o ≡ some r → Typed σ t r)
        → add_text f v o ≡ some m → Typed σ t m
    put_text f (VARINT n) o m h e = none_some e
    put_text f (I64 x) o m h e = none_some e
    put_text f (LEN x) o m h e = let (r, a, b) = map_some (txt f x) o m e in rw (← b) (h r a)
    put_text f GROUP o m h e = none_some e
    put_text f (I32 x) o m h e = none_some e

    put_message : (f u : ℕ) (v : Value) (o : Option Tree) (m : Tree) → σ t f ≡ some (a_message u)
        → ((r : Tree) → o ≡ some r → Typed σ t r)
        → add_message (inner u) f u v o ≡ some m → Typed σ t m
    put_message f u (VARINT n) o m k h e = none_some e
    put_message f u (I64 x) o m k h e = none_some e
    put_message f u (LEN x) o m k h e =
        let (i, a, b) = bind_some (inner u x) _ m e in
        let (r, c, d) = map_some (msg f u i) o m b in
        rw (← d) (k, typed u x i a, h r c)
    put_message f u GROUP o m k h e = none_some e
    put_message f u (I32 x) o m k h e = none_some e

    built : (l : List Field) (m : Tree) → build inner (σ t) l ≡ some m → Typed σ t m
    built [] m e = let z : end ≡ m = cc in rw (← z) tt
    built (x ∷ l) m e = go (σ t x.number) refl e (built l)
      where
        go : (k : Option Kind) → σ t x.number ≡ k → add_field inner k x (build inner (σ t) l) ≡ some m
            → ((r : Tree) → build inner (σ t) l ≡ some r → Typed σ t r) → Typed σ t m
        go none k e h = h m e
        go (some a_number) k e h = put_number x.number x.value (build inner (σ t) l) m h e
        go (some a_text) k e h = put_text x.number x.value (build inner (σ t) l) m h e
        go (some (a_message u)) k e h = put_message x.number u x.value (build inner (σ t) l) m k h e

  nested : (fuel t : ℕ) (s : List ℕ) (m : Tree) → nest σ fuel t s ≡ some m → Typed σ t m
  unfolding nest
  nested zero t s m e = none_some e
  nested (suc fuel) t s m e = let (l, a, b) = bind_some (fields s) (build (nest σ fuel) (σ t)) m e in
      built (nest σ fuel) (nested fuel) t l m b

-- a fact on what is there
abbrev pub Given : {A : Type 0} → (A → Type 0) → Option A → Type 0
Given P none = Unit {0}
Given P (some a) = P a

module _ (σ : Schema) (ρ : Rules) where
  judged_fine : (t : ℕ) (m : Tree) → Typed σ t m → texts_fine ρ t m ≡ true → numbers_fine ρ t m ≡ true
      → FineTree σ ρ t m
  judged_fine t end k a b = tt
  judged_fine t (num f n r) k a b = let q = both_true (ρ.number t f n) (numbers_fine ρ t r) b in
      (q.0, judged_fine t r k a q.1)
  judged_fine t (txt f x r) k a b = let q = both_true (ρ.text t f x) (texts_fine ρ t r) a in
      (q.0, judged_fine t r k q.1 b)
  judged_fine t (msg f u m r) k a b =
      let p = both_true (texts_fine ρ u m) (texts_fine ρ t r) a in
      let q = both_true (numbers_fine ρ u m) (numbers_fine ρ t r) b in
      (k.0, judged_fine u m k.1 p.0 q.0, judged_fine t r k.2 p.1 q.1)

  -- A MESSAGE THAT IS WITHIN QUESTIONS 4 TO 6
  pub tree_fine : (t : ℕ) (s : List ℕ) (m : Tree) → tree σ t s ≡ some m → texts_fine ρ t m ≡ true
      → numbers_fine ρ t m ≡ true → FineTree σ ρ t m
  unfolding tree
  tree_fine t s m e a b = judged_fine t m (nested σ (suc (length s)) t s m e) a b

  -- ---- its parts

  fine_join : (t : ℕ) (a b : Tree) → FineTree σ ρ t a → FineTree σ ρ t b → FineTree σ ρ t (join a b)
  fine_join t end b x y = y
  fine_join t (num f n r) b x y = (x.0, fine_join t r b x.1 y)
  fine_join t (txt f s r) b x y = (x.0, fine_join t r b x.1 y)
  fine_join t (msg f u m r) b x y = (x.0, x.1, fine_join t r b x.2 y)

  same_type : (t f u v : ℕ) → σ t f ≡ some (a_message u) → σ t f ≡ some (a_message v) → u ≡ v
  same_type t f u v p q = cc

  module _ (t f u : ℕ) (listed : σ t f ≡ some (a_message u)) where
    at : (g v : ℕ) → eqb g f ≡ true → σ t g ≡ some (a_message v) → v ≡ u
    at g v e k = let z : g ≡ f = eqb-true g f e in same_type t f v u (rw z at k) listed

    -- the messages at a field, merged
    pub fine_sub : (m : Tree) → FineTree σ ρ t m → FineTree σ ρ u (sub f m)
    fine_sub end x = tt
    fine_sub (num g n r) x = fine_sub r x.1
    fine_sub (txt g s r) x = fine_sub r x.1
    fine_sub (msg g v m r) x = go (eqb g f) refl (fine_sub r x.2)
      where
        go : (b : Bool) → eqb g f ≡ b → FineTree σ ρ u (sub f r) → FineTree σ ρ u (cond b (join m (sub f r)) (sub f r))
        go true e h = fine_join u m (sub f r) (let z = at g v e x.0 in rw z at x.1) h
        go false e h = h

    -- each message at a repeated field
    pub fine_rep : (m : Tree) → FineTree σ ρ t m → All (FineTree σ ρ u) (rep f m)
    fine_rep end x = tt
    fine_rep (num g n r) x = fine_rep r x.1
    fine_rep (txt g s r) x = fine_rep r x.1
    fine_rep (msg g v m r) x = go (eqb g f) refl (fine_rep r x.2)
      where
        go : (b : Bool) → eqb g f ≡ b → All (FineTree σ ρ u) (rep f r)
            → All (FineTree σ ρ u) (cond b (m ∷ rep f r) (rep f r))
        go true e h = ((let z = at g v e x.0 in rw z at x.1), h)
        go false e h = h

  -- the last value of a field
  later : {A : Type 0} (P : A → Type 0) (o : Option A) (b : Bool) (a : A) → Given P o → (b ≡ true → P a)
      → Given P (or_else o (cond b (some a) none))
  later P none true a x h = h refl
  later P none false a x h = tt
  later P (some c) b a x h = x

  abbrev pub LeafFine : ℕ → ℕ → Leaf → Type 0
  LeafFine t f (count n) = ρ.number t f n ≡ true
  LeafFine t f (words x) = ρ.text t f x ≡ true

  pub fine_last : (t f : ℕ) (m : Tree) → FineTree σ ρ t m → Given (LeafFine t f) (last f m)
  fine_last t f end x = tt
  fine_last t f (num g n r) x =
      later (LeafFine t f) (last f r) (eqb g f) (count n) (fine_last t f r x.1)
      (λ e. let z : g ≡ f = eqb-true g f e in rw z at x.0)
  fine_last t f (txt g s r) x =
      later (LeafFine t f) (last f r) (eqb g f) (words s) (fine_last t f r x.1)
      (λ e. let z : g ≡ f = eqb-true g f e in rw z at x.0)
  fine_last t f (msg g v m r) x = fine_last t f r x.2
