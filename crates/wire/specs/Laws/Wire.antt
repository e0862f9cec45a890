-- Law. Laws of the wire format: reading takes a front part of the bytes, and nothing behind that part plays a part.
use Prim.Native.Nat.{ℕ, zero, suc, ◌+◌, ◌*◌, ◌%◌, ◌^◌, ◌≤◌, ◌<◌}
use Rattle.std.specs.Prelude.{◌≡◌, Bool, true, false, cond, length, take, drop, ltb, leb, eqb}
use Rattle.std.proofs.Math.Path.{refl, sym}
use Rattle.std.proofs.Common.{ap, subst, ◌∙◌, arith, length-append, length-take, take-append-drop, take_at, drop_at, le-leb, leb-true}
use mathlib.Core.List.{List, [], ◌∷◌, ◌++◌, append_assoc}
use Rattle.wire.specs.Wire.{Read, broken, read, and_then, digits, varint, Key, key, bytes, length_delimited, item}
use Rattle.wire.specs.Wire.{Value, VARINT, I64, LEN, GROUP, I32, payload, until, value, field}

pub never : {A B : Type 0} {a : A} {r : List ℕ} → broken ≡ read a r → B
never {A} {B} {a} {r} e = absurd (subst is e tt)
  where
    is : Read A → Type 0
    is broken = Unit {0}
    is (read a r) = ⊥

-- p read a at the front of s, and left r: it took `used`, and takes it again whatever stands behind
pub record Front {A : Type 0} (p : List ℕ → Read A) (s : List ℕ) (a : A) (r : List ℕ) : Type 0 where
  pub used : List ℕ
  pub splits : s ≡ used ++ r
  pub again : (t : List ℕ) → p (used ++ t) ≡ read a t

abbrev pub ReaderLaw : {A : Type 0} → (List ℕ → Read A) → Type 0
ReaderLaw {A} p = (s : List ℕ) (a : A) (r : List ℕ) → p s ≡ read a r → Front p s a r

pub reader_broken : {A : Type 0} → ReaderLaw {A = A} (λ s. broken)
reader_broken s a r e = never e

pub reader_read : {A : Type 0} (b : A) → ReaderLaw (λ s. read b s)
reader_read b s a r e = record { used = []; splits = cc; again = λ t. cc }

pub reader_cond : {A : Type 0} (b : Bool) (p q : List ℕ → Read A) → ReaderLaw p → ReaderLaw q
    → ReaderLaw (λ s. cond b (p s) (q s))
reader_cond true p q P Q = P
reader_cond false p q P Q = Q

module _ {A B : Type 0} (p : List ℕ → Read A) (q : A → List ℕ → Read B) where
  pub front_then : {s m r : List ℕ} {a : A} {b : B} → Front p s a m → Front (q a) m b r
      → Front (λ s. and_then (p s) q) s b r
  front_then {s} {m} {r} {a} {b} F G = record {
    used = F.used ++ G.used;
    splits = F.splits ∙ ap (λ l. F.used ++ l) G.splits ∙ sym (append_assoc F.used G.used r);
    again = λ t. rw (append_assoc F.used G.used t, F.again (G.used ++ t)) (G.again t);
  }

  pub reader_then : ReaderLaw p → ((a : A) → ReaderLaw (q a)) → ReaderLaw (λ s. and_then (p s) q)
  reader_then P Q s b r e = go (p s) refl e
    where
      go : (o : Read A) → p s ≡ o → and_then o q ≡ read b r → Front (λ s. and_then (p s) q) s b r
      go broken e₁ e₂ = never e₂
      go (read a m) e₁ e₂ = front_then (P s a m e₁) (Q a m b r e₂)

pub reader_digits : (more : ℕ) → ReaderLaw (digits more)
unfolding digits
reader_digits zero [] a r e = never e
reader_digits (suc more) [] a r e = never e
reader_digits zero (b ∷ s) a r e = go (leb b 1) refl e
  where
    go : (t : Bool) → leb b 1 ≡ t → cond t (read b s) broken ≡ read a r → Front (digits zero) (b ∷ s) a r
    go true e₁ e₂ = record { used = b ∷ []; splits = cc; again = λ t. rw e₁ (cc) }
    go false e₁ e₂ = never e₂
reader_digits (suc more) (b ∷ s) a r e = go (reader_digits more) (ltb b 128) refl e
  where
    go : ReaderLaw (digits more) → (t : Bool) → ltb b 128 ≡ t
        → cond t (read b s) (and_then (digits more s) (λ n r. read (b % 128 + 128 * n) r)) ≡ read a r
        → Front (digits (suc more)) (b ∷ s) a r
    go D true e₁ e₂ = record { used = b ∷ []; splits = cc; again = λ t. rw e₁ (cc) }
    go D false e₁ e₂ =
        let F = reader_then (digits more) _ D (λ n. reader_read (b % 128 + 128 * n)) s a r e₂ in
        record { used = b ∷ F.used; splits = ap (λ l. b ∷ l) F.splits; again = λ t. rw e₁ (F.again t) }

pub reader_varint : ReaderLaw varint
unfolding varint
reader_varint = reader_digits 9

pub reader_key : ReaderLaw key
unfolding key
reader_key =
    reader_then varint _ reader_varint
    (λ k. reader_cond (leb 8 k) _ _ (reader_cond (ltb k (2 ^ 32)) _ _ (reader_read _) reader_broken) reader_broken)

pub reader_bytes : (n : ℕ) → ReaderLaw (bytes n)
unfolding bytes
reader_bytes n s a r e = go (leb n (length s)) refl e
  where
    go : (t : Bool) → leb n (length s) ≡ t → cond t (read (take n s) (drop n s)) broken ≡ read a r
        → Front (bytes n) s a r
    go true e₁ e₂ =
        let h : n ≤ length s = leb-true n (length s) e₁ in
        let l : length (take n s) ≡ n = length-take n s ∙ omega arith in
        record {
          used = take n s;
          splits = sym (take-append-drop n s) ∙ cc;
          again = λ t. rw (
            le-leb n (length (take n s ++ t)) (omega (arith, length-append (take n s) t)),
            take_at (take n s) t n l,
            drop_at (take n s) t n l,
          ) (cc);
        }
    go false e₁ e₂ = never e₂

pub reader_text : ReaderLaw length_delimited
unfolding length_delimited
reader_text = reader_then varint bytes reader_varint reader_bytes

pub key_nil : key [] ≡ broken
unfolding key varint digits
key_nil = refl

module _ {A : Type 0} (p : List ℕ → Read A) (P : ReaderLaw p) where
  pub stays : (s : List ℕ) (a : A) (r : List ℕ) → p s ≡ read a r → length r ≤ length s
  stays s a r e = let F = P s a r e in omega (arith, ap length F.splits, length-append F.used r)

  -- what reads nothing where there is nothing takes a byte at least
  pub moves : p [] ≡ broken → (s : List ℕ) (a : A) (r : List ℕ) → p s ≡ read a r → length r < length s
  moves z s a r e = let F = P s a r e in go F.used F.splits (F.again [])
    where
      go : (u : List ℕ) → s ≡ u ++ r → p (u ++ []) ≡ read a [] → length r < length s
      go [] h h' = never (sym z ∙ h')
      go (x ∷ u) h h' = omega (arith, ap length h, length-append u r)

  -- more bytes behind change nothing
  pub longer : (s : List ℕ) (a : A) (r t : List ℕ) → p s ≡ read a r → p (s ++ t) ≡ read a (r ++ t)
  longer s a r t e = let F = P s a r e in rw (F.splits, append_assoc F.used r t) (F.again (r ++ t))

module _ (inside : Key → List ℕ → Read Value) (I : (k : Key) → ReaderLaw (inside k)) where
  -- what `item` asks of `rest` it asks of fewer bytes
  item_cong : (n : ℕ) (f g : List ℕ → Read Value) (s : List ℕ) → ((r : List ℕ) → length r < length s → f r ≡ g r)
      → item inside n f s ≡ item inside n g s
  item_cong n f g s h = go (key s) refl
    where
      last : (k : Key) (m : List ℕ) → length m < length s → (o : Read Value) → inside k m ≡ o
          → and_then o (λ v r. f r) ≡ and_then o (λ v r. g r)
      last k m l broken e = refl
      last k m l (read v r) e = h r (omega (arith, stays (inside k) (I k) m v r e))

      mid : (k : Key) (m : List ℕ) → length m < length s → (b : Bool) (x : Read Value)
          → cond b x (and_then (inside k m) (λ v r. f r)) ≡ cond b x (and_then (inside k m) (λ v r. g r))
      mid k m l true x = refl
      mid k m l false x = last k m l (inside k m) refl

      go : (o : Read Key) → key s ≡ o
          → and_then o (λ k r. cond (eqb k.wire 4) (cond (eqb k.number n) (read GROUP r) broken)
          (and_then (inside k r) (λ v r'. f r')))
          ≡ and_then o (λ k r. cond (eqb k.wire 4) (cond (eqb k.number n) (read GROUP r) broken)
          (and_then (inside k r) (λ v r'. g r')))
      go broken e = refl
      go (read k m) e =
          mid k m (moves key reader_key key_nil s k m e) (eqb k.wire 4)
          (cond (eqb k.number n) (read GROUP m) broken)

  item_nil : (n : ℕ) (f : List ℕ → Read Value) → item inside n f [] ≡ broken
  item_nil n f = rw key_nil

  -- fuel for each byte is fuel enough
  pub until_fuel : (f g n : ℕ) (s : List ℕ) → length s ≤ f → length s ≤ g → until inside f n s ≡ until inside g n s
  unfolding until
  until_fuel zero zero n s h h' = refl
  until_fuel zero (suc g) n [] h h' = sym (item_nil n (until inside g n))
  until_fuel zero (suc g) n (x ∷ s) h h' = absurd (omega arith)
  until_fuel (suc f) zero n [] h h' = item_nil n (until inside f n)
  until_fuel (suc f) zero n (x ∷ s) h h' = absurd (omega arith)
  until_fuel (suc f) (suc g) n s h h' =
      item_cong n (until inside f n) (until inside g n) s (λ r l. until_fuel f g n r (omega arith) (omega arith))

  -- the fields of a group, with no fuel in sight
  pub until_step : (n : ℕ) (s : List ℕ)
      → until inside (length s) n s ≡ item inside n (λ r. until inside (length r) n r) s
  unfolding until
  until_step n [] = sym (item_nil n (λ r. until inside (length r) n r))
  until_step n (x ∷ s) =
      item_cong n (until inside (length s) n) (λ r. until inside (length r) n r) (x ∷ s)
      (λ r l. until_fuel (length s) (length r) n r (omega arith) (omega arith))

  module _ (n : ℕ) where
    abbrev ends : List ℕ → Read Value
    ends r = until inside (length r) n r

    item_front : (s : List ℕ) (a : Value) (r : List ℕ)
        → ((m : List ℕ) → length m < length s → ends m ≡ read a r → Front ends m a r)
        → item inside n ends s ≡ read a r → Front (item inside n ends) s a r
    item_front s a r ih e = go (key s) refl e
      where
        last : (k : Key) (m : List ℕ) → length m < length s → (o : Read Value) → inside k m ≡ o
            → and_then o (λ v r'. ends r') ≡ read a r
            → Front (λ m. and_then (inside k m) (λ v r'. ends r')) m a r
        last k m l broken e₁ e₂ = never e₂
        last k m l (read v r') e₁ e₂ =
            front_then (inside k) (λ v r'. ends r') (I k m v r' e₁)
            (ih r' (omega (arith, stays (inside k) (I k) m v r' e₁)) e₂)

        mid : (k : Key) (m : List ℕ) → length m < length s → (b : Bool)
            → cond b (cond (eqb k.number n) (read GROUP m) broken) (and_then (inside k m) (λ v r'. ends r'))
            ≡ read a r
            → Front (λ m. cond b (cond (eqb k.number n) (read GROUP m) broken)
            (and_then (inside k m) (λ v r'. ends r'))) m a r
        mid k m l true e₂ = reader_cond (eqb k.number n) _ _ (reader_read GROUP) reader_broken m a r e₂
        mid k m l false e₂ = last k m l (inside k m) refl e₂

        go : (o : Read Key) → key s ≡ o
            → and_then o (λ k r. cond (eqb k.wire 4) (cond (eqb k.number n) (read GROUP r) broken)
            (and_then (inside k r) (λ v r'. ends r'))) ≡ read a r
            → Front (item inside n ends) s a r
        go broken e₁ e₂ = never e₂
        go (read k m) e₁ e₂ =
            front_then key _ (reader_key s k m e₁)
            (mid k m (moves key reader_key key_nil s k m e₁) (eqb k.wire 4) e₂)

    until_front : (f : ℕ) (s : List ℕ) → length s < f → (a : Value) (r : List ℕ) → ends s ≡ read a r → Front ends s a r
    until_front zero s h a r e = absurd (omega arith)
    until_front (suc f) s h a r e =
        let F = item_front s a r (λ m l. until_front f m (omega arith) a r) (sym (until_step n s) ∙ e) in
        record { used = F.used; splits = F.splits; again = λ t. until_step n (F.used ++ t) ∙ F.again t }

    pub reader_until : ReaderLaw ends
    reader_until s a r e = until_front (suc (length s)) s (omega arith) a r e

pub reader_payload : (w : ℕ) (inner : List ℕ → Read Value) → ReaderLaw inner → ReaderLaw (payload w inner)
unfolding payload
reader_payload w inner R =
    reader_cond (eqb w 0) _ _ (reader_then varint _ reader_varint (λ n. reader_read (VARINT n)))
    (reader_cond (eqb w 1) _ _ (reader_then (bytes 8) _ (reader_bytes 8) (λ x. reader_read (I64 x)))
    (reader_cond (eqb w 2) _ _ (reader_then length_delimited _ reader_text (λ x. reader_read (LEN x)))
    (reader_cond (eqb w 3) _ _ R
    (reader_cond (eqb w 5) _ _ (reader_then (bytes 4) _ (reader_bytes 4) (λ x. reader_read (I32 x)))
    reader_broken))))

pub reader_value : (depth : ℕ) (k : Key) → ReaderLaw (value depth k)
unfolding value
reader_value zero k = reader_payload k.wire _ reader_broken
reader_value (suc depth) k =
    reader_payload k.wire _ (reader_until (value depth) (reader_value depth) k.number)

pub reader_field : (depth : ℕ) → ReaderLaw (field depth)
unfolding field
reader_field depth =
    reader_then key _ reader_key (λ k. reader_then (value depth k) _ (reader_value depth k) (λ v. reader_read _))

pub field_nil : (depth : ℕ) → field depth [] ≡ broken
unfolding field
field_nil depth = rw key_nil
