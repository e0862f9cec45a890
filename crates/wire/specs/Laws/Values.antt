-- Law. A value by its wire type.
use Prim.Native.Nat.{ℕ, zero, suc}
use Rattle.std.specs.Prelude.{◌≡◌, refl, Bool, true, false, cond, length, eqb, List}
use Rattle.std.proofs.Math.Path.{sym}
use Rattle.std.proofs.Common.{ap, ◌∙◌, ne_eqb, eqb-true}
use Rattle.wire.specs.Laws.Wire.{never}
use Rattle.wire.specs.Wire.{Read, broken, read, and_then, item, GROUP, until, in_group, varint, Key, key, bytes}
use Rattle.wire.specs.Wire.{length_delimited, Value, VARINT, I64, LEN, I32, payload, value}

-- by wire type, whatever the depth
pub value_0 : (d n : ℕ) (s : List ℕ) → value d (record { number = n; wire = 0 }) s
    ≡ and_then (varint s) (λ x r. read (VARINT x) r)
unfolding value payload
value_0 zero n s = refl
value_0 (suc d) n s = refl

pub value_1 : (d n : ℕ) (s : List ℕ) → value d (record { number = n; wire = 1 }) s
    ≡ and_then (bytes 8 s) (λ x r. read (I64 x) r)
unfolding value payload
value_1 zero n s = refl
value_1 (suc d) n s = refl

pub value_2 : (d n : ℕ) (s : List ℕ) → value d (record { number = n; wire = 2 }) s
    ≡ and_then (length_delimited s) (λ x r. read (LEN x) r)
unfolding value payload
value_2 zero n s = refl
value_2 (suc d) n s = refl

pub value_5 : (d n : ℕ) (s : List ℕ) → value d (record { number = n; wire = 5 }) s
    ≡ and_then (bytes 4 s) (λ x r. read (I32 x) r)
unfolding value payload
value_5 zero n s = refl
value_5 (suc d) n s = refl

pub value_else : (d n w : ℕ) (s : List ℕ) → (w ≡ 0 → ⊥) → (w ≡ 1 → ⊥) → (w ≡ 2 → ⊥) → (w ≡ 3 → ⊥) → (w ≡ 5 → ⊥)
    → value d (record { number = n; wire = w }) s ≡ broken
unfolding value payload
value_else zero n w s h0 h1 h2 h3 h5 = rw (ne_eqb w 0 h0, ne_eqb w 1 h1, ne_eqb w 2 h2, ne_eqb w 3 h3, ne_eqb w 5 h5)
value_else (suc d) n w s h0 h1 h2 h3 h5 = rw (ne_eqb w 0 h0, ne_eqb w 1 h1, ne_eqb w 2 h2, ne_eqb w 3 h3, ne_eqb w 5 h5)

-- the wire type that a value has
abbrev pub wire_of : Value → ℕ
wire_of (VARINT n) = 0
wire_of (I64 x) = 1
wire_of (LEN x) = 2
wire_of GROUP = 3
wire_of (I32 x) = 5

module _ (v : Value) (r : List ℕ) where
  of_cond : (w : ℕ) (t : Bool) (a b : Read Value) → (t ≡ true → a ≡ read v r → wire_of v ≡ w)
      → (b ≡ read v r → wire_of v ≡ w)
      → cond t a b ≡ read v r → wire_of v ≡ w
  of_cond w true a b h h' e = h refl e
  of_cond w false a b h h' e = h' e

  of_then : {X : Type 0} (w : ℕ) (f : X → Value) (o : Read X) → ((x : X) → wire_of (f x) ≡ w)
      → and_then o (λ x r. read (f x) r) ≡ read v r → wire_of v ≡ w
  of_then w f broken h e = never e
  of_then w f (read x m) h e = let p : f x ≡ v = cc in ap wire_of (sym p) ∙ h x

  of_item : (inside : Key → List ℕ → Read Value) (n : ℕ) (rest : List ℕ → Read Value) (s : List ℕ)
      → ((m : List ℕ) → rest m ≡ read v r → wire_of v ≡ 3) → item inside n rest s ≡ read v r → wire_of v ≡ 3
  of_item inside n rest s ih e = go (key s) e
    where
      last : (o : Read Value) → and_then o (λ v r. rest r) ≡ read v r → wire_of v ≡ 3
      last broken e = never e
      last (read x m) e = ih m e

      own : (m : List ℕ) (b : Bool) → cond b (read GROUP m) broken ≡ read v r → wire_of v ≡ 3
      own m true e = let p : GROUP ≡ v = cc in ap wire_of (sym p)
      own m false e = never e

      go : (o : Read Key)
          → and_then o (λ k r. cond (eqb k.wire 4) (cond (eqb k.number n) (read GROUP r) broken)
          (and_then (inside k r) (λ v r'. rest r'))) ≡ read v r → wire_of v ≡ 3
      go broken e = never e
      go (read k m) e = of_cond 3 (eqb k.wire 4) _ _ (λ t h. own m (eqb k.number n) h) (last (inside k m)) e

  of_until : (inside : Key → List ℕ → Read Value) (f n : ℕ) (s : List ℕ) → until inside f n s ≡ read v r → wire_of v ≡ 3
  unfolding until
  of_until inside zero n s e = never e
  of_until inside (suc f) n s e = of_item inside n (until inside f n) s (of_until inside f n) e

  of_payload : (w : ℕ) (inner : List ℕ → Read Value) (s : List ℕ) → (inner s ≡ read v r → wire_of v ≡ 3)
      → payload w inner s ≡ read v r → wire_of v ≡ w
  unfolding payload
  of_payload w inner s h =
      of_cond w (eqb w 0) _ _ (λ t e. of_then 0 VARINT (varint s) (λ x. refl) e ∙ sym (eqb-true w 0 t))
      (of_cond w (eqb w 1) _ _ (λ t e. of_then 1 I64 (bytes 8 s) (λ x. refl) e ∙ sym (eqb-true w 1 t))
      (of_cond w (eqb w 2) _ _ (λ t e. of_then 2 LEN (length_delimited s) (λ x. refl) e ∙ sym (eqb-true w 2 t))
      (of_cond w (eqb w 3) _ _ (λ t e. h e ∙ sym (eqb-true w 3 t))
      (of_cond w (eqb w 5) _ _ (λ t e. of_then 5 I32 (bytes 4 s) (λ x. refl) e ∙ sym (eqb-true w 5 t))
      (λ e. never e)))))

  -- a value has its key's wire type
  pub value_wire : (d : ℕ) (k : Key) (s : List ℕ) → value d k s ≡ read v r → wire_of v ≡ k.wire
  unfolding value
  value_wire zero k s e = of_payload k.wire (λ m. broken) s (λ h. never h) e
  value_wire (suc d) k s e =
      of_payload k.wire (in_group (value d) k.number) s (of_until (value d) (length s) k.number s) e
