-- Law. The tree with no fuel in sight.
use Prim.Native.Nat.{ℕ, zero, suc, ◌+◌, ◌≤◌, ◌<◌}
use Rattle.std.specs.Prelude.{◌≡◌, refl, List, [], ◌∷◌, ◌++◌, length, take, drop, Bool, true, false, cond, leb}
use Rattle.std.proofs.Common.{sym, ap, subst, ◌∙◌, arith, length-append, take-append-drop}
use Rattle.std.proofs.Math.Option.{Option, none, some, map}
use Rattle.wire.specs.Wire.{Read, broken, read, and_then, varint, Key, key, bytes, length_delimited, Value, VARINT, I64}
use Rattle.wire.specs.Wire.{LEN, GROUP, I32, value, Field, field, fields}
use Rattle.wire.specs.Laws.Wire.{never, moves, stays, reader_key, reader_varint, reader_field, key_nil, field_nil}
use Rattle.wire.specs.Laws.Values.{value_2, value_wire}
use Rattle.wire.specs.Fields.{Whole}
use Rattle.wire.specs.Laws.Fields.{field_front, fields_step, fields_nil, fields_broken}
use Rattle.realtime.specs.Tree.{Kind, a_number, a_text, a_message, Schema, Tree, end, msg, add_number, add_text}
use Rattle.realtime.specs.Tree.{add_message, add_field, build, nest, tree}
use Rattle.basics.specs.Options.{bind_o}

-- a text inside a value has fewer than n bytes
abbrev pub Shorter : ℕ → Value → Type 0
Shorter n (VARINT m) = Unit {0}
Shorter n (I64 x) = Unit {0}
Shorter n (LEN x) = length x < n
Shorter n GROUP = Unit {0}
Shorter n (I32 x) = Unit {0}

-- two readers that agree on fewer than n bytes put the same
put_same : (n : ℕ) (p q : ℕ → List ℕ → Option Tree) → ((u : ℕ) (x : List ℕ) → length x < n → p u x ≡ q u x)
    → (k : Option Kind) (x : Field) → Shorter n x.value → (a b : Option Tree) → a ≡ b
    → add_field p k x a ≡ add_field q k x b
put_same n p q h none x l a b e = e
put_same n p q h (some a_number) x l a b e = rw e
put_same n p q h (some a_text) x l a b e = rw e
put_same n p q h (some (a_message u)) x l a b e = rw e (go x.value l)
  where
    go : (v : Value) → Shorter n v → add_message (p u) x.number u v b ≡ add_message (q u) x.number u v b
    go (VARINT m) l = refl
    go (I64 y) l = refl
    go (LEN y) l = rw (h u y l)
    go GROUP l = refl
    go (I32 y) l = refl

shorter : (v : Value) (m n : ℕ) → m ≤ n → Shorter m v → Shorter n v
shorter (VARINT k) m n h l = tt
shorter (I64 y) m n h l = tt
shorter (LEN y) m n h l = omega arith
shorter GROUP m n h l = tt
shorter (I32 y) m n h l = tt

-- a text and what is left are no longer than the bytes that they are read from
bytes_room : (n : ℕ) (s x r : List ℕ) → bytes n s ≡ read x r → length x + length r ≤ length s
unfolding bytes
bytes_room n s x r e = go (leb n (length s)) e
  where
    go : (b : Bool) → cond b (read (take n s) (drop n s)) broken ≡ read x r → length x + length r ≤ length s
    go true e₁ =
        let p : take n s ≡ x = cc in
        let q : drop n s ≡ r = cc in
        omega (arith, ap length p, ap length q, length-append (take n s) (drop n s), ap length (take-append-drop n s))
    go false e₁ = never e₁

pub text_room : (s x r : List ℕ) → length_delimited s ≡ read x r → length x + length r ≤ length s
unfolding length_delimited
text_room s x r e = go (varint s) refl e
  where
    go : (o : Read ℕ) → varint s ≡ o → and_then o bytes ≡ read x r → length x + length r ≤ length s
    go broken e₁ e₂ = never e₂
    go (read n m) e₁ e₂ = omega (arith, stays varint reader_varint s n m e₁, bytes_room n m x r e₂)

value_shorter : (d : ℕ) (k : Key) (s : List ℕ) (v : Value) (r : List ℕ) (n : ℕ) → length s < n → value d k s ≡ read v r
    → Shorter n v
value_shorter d k s (VARINT m) r n l e = tt
value_shorter d k s (I64 x) r n l e = tt
value_shorter d k s GROUP r n l e = tt
value_shorter d k s (I32 x) r n l e = tt
value_shorter d k s (LEN x) r n l e =
    go (length_delimited s) refl
    (sym (value_2 d k.number s)
    ∙ ap (λ w. value d (record { number = k.number; wire = w }) s) (value_wire (LEN x) r d k s e) ∙ e)
  where
    go : (o : Read (List ℕ)) → length_delimited s ≡ o → and_then o (λ x r. read (LEN x) r) ≡ read (LEN x) r
        → length x < n
    go broken e₁ e₂ = never e₂
    go (read y m) e₁ e₂ = let p : y ≡ x = cc in omega (arith, ap length p, text_room s y m e₁)

field_shorter : (s : List ℕ) (x : Field) (r : List ℕ) → field 16 s ≡ read x r → Shorter (length s) x.value
unfolding field
field_shorter s x r e = go (key s) refl e
  where
    in_value : (k : Key) (m : List ℕ) → length m < length s → (o : Read Value) → value 16 k m ≡ o
        → and_then o (λ v r. read (record { number = k.number; value = v }) r) ≡ read x r
        → Shorter (length s) x.value
    in_value k m l broken e₁ e₂ = never e₂
    in_value k m l (read v r') e₁ e₂ =
        let p : record { number = k.number; value = v } ≡ x = cc in
        subst (λ y. Shorter (length s) y.value) p (value_shorter 16 k m v r' (length s) l e₁)

    go : (o : Read Key) → key s ≡ o
        → and_then o (λ k r. and_then (value 16 k r) (λ v r'. read (record { number = k.number; value = v }) r')) ≡
        read x r
        → Shorter (length s) x.value
    go broken e₁ e₂ = never e₂
    go (read k m) e₁ e₂ = in_value k m (moves key reader_key key_nil s k m e₁) (value 16 k m) refl e₂

-- what a reader of the messages inside makes of a message
abbrev pub grown : (ℕ → List ℕ → Option Tree) → (ℕ → Option Kind) → List ℕ → Option Tree
grown inner listed s = bind_o (fields s) (build inner listed)

grown_nil : (p : ℕ → List ℕ → Option Tree) (listed : ℕ → Option Kind) → grown p listed [] ≡ some end
grown_nil p listed = rw fields_nil

grown_broken : (p : ℕ → List ℕ → Option Tree) (listed : ℕ → Option Kind) (s : List ℕ) → 0 < length s
    → field 16 s ≡ broken → grown p listed s ≡ none
grown_broken p listed s l e = rw (fields_broken s l e)

put_none : (p : ℕ → List ℕ → Option Tree) (k : Option Kind) (x : Field) → add_field p k x none ≡ none
put_none p none x = refl
put_none p (some a_number) x = go x.value
  where
    go : (v : Value) → add_number x.number v none ≡ none
    go (VARINT m) = refl
    go (I64 y) = refl
    go (LEN y) = refl
    go GROUP = refl
    go (I32 y) = refl
put_none p (some a_text) x = go x.value
  where
    go : (v : Value) → add_text x.number v none ≡ none
    go (VARINT m) = refl
    go (I64 y) = refl
    go (LEN y) = refl
    go GROUP = refl
    go (I32 y) = refl
put_none p (some (a_message u)) x = go x.value
  where
    in_message : (o : Option Tree) → bind_o o (λ t. map (msg x.number u t) none) ≡ none
    in_message none = refl
    in_message (some t) = refl

    go : (v : Value) → add_message (p u) x.number u v none ≡ none
    go (VARINT m) = refl
    go (I64 y) = refl
    go (LEN y) = in_message (p u y)
    go GROUP = refl
    go (I32 y) = refl

grown_step : (p : ℕ → List ℕ → Option Tree) (listed : ℕ → Option Kind) (s : List ℕ) (x : Field) (r : List ℕ)
    → field 16 s ≡ read x r
    → grown p listed s ≡ add_field p (listed x.number) x (grown p listed r)
grown_step p listed s x r e = rw (fields_step s x r e) (go (fields r))
  where
    go : (o : Option (List Field)) → bind_o (map (λ l. x ∷ l) o) (build p listed) ≡
        add_field p (listed x.number) x (bind_o o (build p listed))
    go none = sym (put_none p (listed x.number) x)
    go (some l) = refl

-- two readers that agree on fewer bytes make the same of a message
grown_same : (p q : ℕ → List ℕ → Option Tree) (listed : ℕ → Option Kind) (n f : ℕ) (s : List ℕ) → length s ≤ n
    → length s < f
    → ((u : ℕ) (x : List ℕ) → length x < n → p u x ≡ q u x) → grown p listed s ≡ grown q listed s
grown_same p q listed n zero s l h e = absurd (omega arith)
grown_same p q listed n (suc f) [] l h e = grown_nil p listed ∙ sym (grown_nil q listed)
grown_same p q listed n (suc f) (b ∷ s) l h e = go (λ r. grown_same p q listed n f r) (field 16 (b ∷ s)) refl
  where
    go : ((r : List ℕ) → length r ≤ n → length r < f → ((u : ℕ) (x : List ℕ) → length x < n → p u x ≡ q u x)
        → grown p listed r ≡ grown q listed r)
        → (o : Read Field) → field 16 (b ∷ s) ≡ o → grown p listed (b ∷ s) ≡ grown q listed (b ∷ s)
    go ih broken e₁ =
        grown_broken p listed (b ∷ s) (omega arith) e₁ ∙ sym (grown_broken q listed (b ∷ s) (omega arith) e₁)
    go ih (read x r) e₁ =
        let m = moves (field 16) (reader_field 16) (field_nil 16) (b ∷ s) x r e₁ in
        grown_step p listed (b ∷ s) x r e₁
        ∙ put_same n p q e (listed x.number) x
        (shorter x.value (length (b ∷ s)) n l (field_shorter (b ∷ s) x r e₁)) _ _
        (ih r (omega arith) (omega arith) e)
        ∙ sym (grown_step q listed (b ∷ s) x r e₁)

module _ (σ : Schema) where
  -- fuel for each byte is fuel enough
  nest_fuel : (f g t : ℕ) (s : List ℕ) → length s < f → length s < g → nest σ f t s ≡ nest σ g t s
  unfolding nest
  nest_fuel zero g t s h h' = absurd (omega arith)
  nest_fuel (suc f) zero t s h h' = absurd (omega arith)
  nest_fuel (suc f) (suc g) t s h h' =
      grown_same (nest σ f) (nest σ g) (σ t) (length s) (suc (length s)) s (omega arith) (omega arith)
      (λ u x l. nest_fuel f g u x (omega arith) (omega arith))

  -- a message is made of its fields, and of the trees of the messages inside it
  pub tree_grown : (t : ℕ) (s : List ℕ) → tree σ t s ≡ grown (tree σ) (σ t) s
  unfolding tree nest
  tree_grown t s =
      grown_same (nest σ (length s)) (tree σ) (σ t) (length s) (suc (length s)) s (omega arith) (omega arith)
      (λ u x l. nest_fuel (length s) (suc (length x)) u x l (omega arith))

  pub tree_nil : (t : ℕ) → tree σ t [] ≡ some end
  tree_nil t = tree_grown t [] ∙ grown_nil (tree σ) (σ t)

  pub tree_broken : (t : ℕ) (s : List ℕ) → 0 < length s → field 16 s ≡ broken → tree σ t s ≡ none
  tree_broken t s l e = tree_grown t s ∙ grown_broken (tree σ) (σ t) s l e

  -- THE LAW OF A FIELD: the first field, put in front of what the others are
  pub tree_step : (t : ℕ) (s : List ℕ) (x : Field) (r : List ℕ) → field 16 s ≡ read x r
      → tree σ t s ≡ add_field (tree σ) (σ t x.number) x (tree σ t r)
  tree_step t s x r e = tree_grown t s ∙ grown_step (tree σ) (σ t) s x r e
      ∙ ap (add_field (tree σ) (σ t x.number) x) (sym (tree_grown t r))

  pub tree_front : (t : ℕ) (f : List ℕ) (x : Field) (a : List ℕ) → Whole f x
      → tree σ t (f ++ a) ≡ add_field (tree σ) (σ t x.number) x (tree σ t a)
  tree_front t f x a w = tree_step t (f ++ a) x a (field_front f x a w)
