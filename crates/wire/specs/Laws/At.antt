-- Law. What an answer says of the bytes: where the code answers a value and a cursor, the wire format reads that
-- value, and what is left stands at the cursor. For callers of this crate.
use Rattle.std.proofs.lemmas.Option.{some_pair_parts}
use Rattle.std.specs.Prelude.{ℕ, ◌+◌, ◌-◌, ◌≤◌, ◌<◌, ◌≡◌, refl, List, ◌++◌, length, take, drop, leb, Bool, true, false, cond, Some, None}
use Rattle.std.proofs.Common.{sym, ap, subst, ◌∙◌, append_assoc, arith, length-append, length-drop, take-append-drop, drop_at, take_at}
use Rattle.wire.specs.Wire.{Read, broken, read, and_then, varint, Key, key, bytes, length_delimited, Value, value}
use Rattle.wire.specs.Wire.{field, LEN}
use Rattle.wire.specs.Laws.Values.{value_2}
use Rattle.wire.specs.Laws.Wire.{never, moves, stays, key_nil, ReaderLaw, reader_varint, reader_key, reader_text}
use Rattle.wire.specs.Laws.Wire.{reader_value}
use Rattle.wire.specs.Promises.Places.{cursor_at, got_number, number_at, got_key, key_at, got_text, text_at, got_skipped}
use Rattle.wire.specs.Promises.Places.{skipped_at}
use Rattle.wire.specs.declared.Cursor.{Cursor}

pub place : (s : List ℕ) (p : ℕ) → p ≤ length s → length s - length (drop p s) ≡ p
place s p h = omega (arith, length-drop p s)

rest_at : (s w r : List ℕ) → s ≡ w ++ r → drop (length s - length r) s ≡ r
rest_at s w r e =
    ap (drop (length s - length r)) e
    ∙ drop_at w r (length s - length r) (omega (arith, ap length e, length-append w r))

-- at `at` p reads a, and what it leaves starts at `next`
pub record ReadAt {A : Type 0} (p : List ℕ → Read A) (s : List ℕ) (at : ℕ) (a : A) (next : ℕ) : Type 0 where
  pub same : p (drop at s) ≡ read a (drop next s)
  pub inside : next ≤ length s

module _ {A : Type 0} (p : List ℕ → Read A) (P : ReaderLaw p) (s : List ℕ) (at : ℕ) where
  pub read_at : (a : A) (r : List ℕ) → p (drop at s) ≡ read a r → ReadAt p s at a (length s - length r)
  read_at a r e =
      let F = P (drop at s) a r e in
      record {
        same = e ∙ ap (read a) (sym (rest_at s (take at s ++ F.used) r
            (sym (take-append-drop at s) ∙ ap (λ l. take at s ++ l) F.splits
            ∙ sym (append_assoc (take at s) F.used r))));
        inside = omega arith;
      }

module _ (s : List ℕ) (at : ℕ) where
  pub number_read : (n : ℕ) (c : Cursor) → Some (n, c) ≡ number_at s at → ReadAt varint s at n c.at
  number_read n c e = go (varint (drop at s)) refl e
    where
      go : (o : Read ℕ) → varint (drop at s) ≡ o → Some (n, c) ≡ got_number s o → ReadAt varint s at n c.at
      go broken e₁ e₂ = let z : ◌≡◌ {A = ℕ} 0 1 = cc in absurd (omega arith)
      go (read m r) e₁ e₂ =
          let f = some_pair_parts _ _ _ _ e₂ in
          let a : m ≡ n = sym f.0 in
          let b : cursor_at s r ≡ c = sym f.1 in
          subst (λ k. ReadAt varint s at n k.at) b
          (subst (λ k. ReadAt varint s at k (cursor_at s r).at) a (read_at varint reader_varint s at m r e₁))

  pub number_broken : None ≡ number_at s at → varint (drop at s) ≡ broken
  number_broken e = go (varint (drop at s)) e
    where
      go : (o : Read ℕ) → None ≡ got_number s o → o ≡ broken
      go broken e₂ = refl
      go (read m r) e₂ = let z : ◌≡◌ {A = ℕ} 0 1 = cc in absurd (omega arith)

  pub key_read : (n w : ℕ) (c : Cursor)
      → Some (n, w, c) ≡ key_at s at → ReadAt key s at (record { number = n; wire = w }) c.at
  key_read n w c e = go (key (drop at s)) refl e
    where
      go : (o : Read Key) → key (drop at s) ≡ o → Some (n, w, c) ≡ got_key s o
          → ReadAt key s at (record { number = n; wire = w }) c.at
      go broken e₁ e₂ = let z : ◌≡◌ {A = ℕ} 0 1 = cc in absurd (omega arith)
      go (read k r) e₁ e₂ =
          let f : ◌≡◌ {A = ℕ × ℕ × Cursor} (k.number, k.wire, cursor_at s r) (n, w, c) = cc in
          let p : k.number ≡ n = ap (λ t. t.0) f in
          let q : k.wire ≡ w = ap (λ t. t.1) f in
          let b : cursor_at s r ≡ c = ap (λ t. t.2) f in
          let h : k ≡ record { number = n; wire = w } = λ i. record { number = p i; wire = q i } in
          subst (λ j. ReadAt key s at (record { number = n; wire = w }) j.at) b
          (subst (λ j. ReadAt key s at j (cursor_at s r).at) h (read_at key reader_key s at k r e₁))

  pub key_broken : None ≡ key_at s at → key (drop at s) ≡ broken
  key_broken e = go (key (drop at s)) e
    where
      go : (o : Read Key) → None ≡ got_key s o → o ≡ broken
      go broken e₂ = refl
      go (read m r) e₂ = let z : ◌≡◌ {A = ℕ} 0 1 = cc in absurd (omega arith)

  pub skipped_read : (n w d : ℕ) (c : Cursor) → Some c ≡ skipped_at s at n w d
      → (v : Value) × ReadAt (value d (record { number = n; wire = w })) s at v c.at
  skipped_read n w d c e = go (value d k (drop at s)) refl e
    where
      k : Key
      k = record { number = n; wire = w }

      go : (o : Read Value) → value d k (drop at s) ≡ o → Some c ≡ got_skipped s o
          → (v : Value) × ReadAt (value d k) s at v c.at
      go broken e₁ e₂ = let z : ◌≡◌ {A = ℕ} 0 1 = cc in absurd (omega arith)
      go (read v r) e₁ e₂ =
          let b : cursor_at s r ≡ c = cc in
          (v, subst (λ j. ReadAt (value d k) s at v j.at) b (read_at (value d k) (reader_value d k) s at v r e₁))

  pub skipped_broken : (n w d : ℕ) → None ≡ skipped_at s at n w d
      → value d (record { number = n; wire = w }) (drop at s) ≡ broken
  skipped_broken n w d e = go (value d (record { number = n; wire = w }) (drop at s)) e
    where
      go : (o : Read Value) → None ≡ got_skipped s o → o ≡ broken
      go broken e₂ = refl
      go (read m r) e₂ = let z : ◌≡◌ {A = ℕ} 0 1 = cc in absurd (omega arith)

-- the bytes of a text stand in front of what is left
bytes_split : (n : ℕ) (t x r : List ℕ) → bytes n t ≡ read x r → t ≡ x ++ r
unfolding bytes
bytes_split n t x r e = go (leb n (length t)) e
  where
    go : (b : Bool) → cond b (read (take n t) (drop n t)) broken ≡ read x r → t ≡ x ++ r
    go true e₁ = let p : take n t ≡ x = cc in let q : drop n t ≡ r = cc in sym (take-append-drop n t) ∙ rw (p, q)
    go false e₁ = never e₁

text_split : (t x r : List ℕ) → length_delimited t ≡ read x r → (u : List ℕ) × (t ≡ u ++ (x ++ r))
unfolding length_delimited
text_split t x r e = go (varint t) refl e
  where
    go : (o : Read ℕ) → varint t ≡ o → and_then o bytes ≡ read x r → (u : List ℕ) × (t ≡ u ++ (x ++ r))
    go broken e₁ e₂ = never e₂
    go (read n m) e₁ e₂ =
        let F = reader_varint t n m e₁ in
        (F.used, F.splits ∙ ap (λ l. F.used ++ l) (bytes_split n m x r e₂))

part_at : (s w x r : List ℕ) → s ≡ w ++ (x ++ r) → take (length x) (drop (length s - length r - length x) s) ≡ x
part_at s w x r e =
    ap (take (length x)) (ap (drop (length s - length r - length x)) e
    ∙ drop_at w (x ++ r) (length s - length r - length x)
    (omega (arith, ap length e, length-append w (x ++ r), length-append x r)))
    ∙ take_at x r (length x) refl

-- at `at` stands a text: the n bytes from i on, which end at `next`
pub record TextAt (s : List ℕ) (at i n next : ℕ) : Type 0 where
  pub same : length_delimited (drop at s) ≡ read (take n (drop i s)) (drop next s)
  pub ends : i + n ≡ next
  pub inside : next ≤ length s

pub text_read : (s : List ℕ) (at i n : ℕ) (c : Cursor) → Some (i, n, c) ≡ text_at s at → TextAt s at i n c.at
text_read s at i n c e = go (length_delimited (drop at s)) refl e
  where
    go : (o : Read (List ℕ)) → length_delimited (drop at s) ≡ o → Some (i, n, c) ≡ got_text s o
        → TextAt s at i n c.at
    go broken e₁ e₂ = let z : ◌≡◌ {A = ℕ} 0 1 = cc in absurd (omega arith)
    go (read x r) e₁ e₂ =
        let f : ◌≡◌ {A = ℕ × ℕ × Cursor} (length s - length r - length x, length x, cursor_at s r) (i, n, c) = cc in
        let p : length s - length r - length x ≡ i = ap (λ t. t.0) f in
        let q : length x ≡ n = ap (λ t. t.1) f in
        let b : cursor_at s r ≡ c = ap (λ t. t.2) f in
        let b' : length s - length r ≡ c.at = ap (λ k. k.at) b in
        let R = read_at length_delimited reader_text s at x r e₁ in
        let T = text_split (drop at s) x r e₁ in
        let w : s ≡ (take at s ++ T.0) ++ (x ++ r) =
        sym (take-append-drop at s) ∙ ap (λ l. take at s ++ l) T.1
        ∙ sym (append_assoc (take at s) T.0 (x ++ r)) in
        record {
          same = rw (← p, ← q, part_at s (take at s ++ T.0) x r w, ← b) R.same;
          ends = omega (arith, ap length w, length-append (take at s ++ T.0) (x ++ r), length-append x r);
          inside = omega arith;
        }

pub text_broken : (s : List ℕ) (at : ℕ) → None ≡ text_at s at → length_delimited (drop at s) ≡ broken
text_broken s at e = go (length_delimited (drop at s)) e
  where
    go : (o : Read (List ℕ)) → None ≡ got_text s o → o ≡ broken
    go broken e₂ = refl
    go (read m r) e₂ = let z : ◌≡◌ {A = ℕ} 0 1 = cc in absurd (omega arith)

-- a key and the value behind it are a field
pub field_read : (s : List ℕ) (at d : ℕ) (k : Key) (next : ℕ) (v : Value) (after : ℕ) → ReadAt key s at k next
    → ReadAt (value d k) s next v after
    → field d (drop at s) ≡ read (record { number = k.number; value = v }) (drop after s)
unfolding field
field_read s at d k next v after K Q = rw (K.same, Q.same)

pub field_broken_key : (t : List ℕ) (d : ℕ) → key t ≡ broken → field d t ≡ broken
unfolding field
field_broken_key t d e = rw e

pub field_broken_value : (s : List ℕ) (at d : ℕ) (k : Key) (next : ℕ) → ReadAt key s at k next
    → value d k (drop next s) ≡ broken → field d (drop at s) ≡ broken
unfolding field
field_broken_value s at d k next K e = rw (K.same, e)

-- behind a field less is left: a loop over fields ends
pub field_less : (s : List ℕ) (at d : ℕ) (k : Key) (next : ℕ) (v : Value) (after : ℕ) → ReadAt key s at k next
    → ReadAt (value d k) s next v after
    → length s - after < length s - at
field_less s at d k next v after K Q =
    omega (
      arith,
      moves key reader_key key_nil (drop at s) k (drop next s) K.same,
      stays (value d k) (reader_value d k) (drop next s) v (drop after s) Q.same,
      length-drop at s,
      length-drop next s,
      length-drop after s,
    )

-- behind a key of wire type 2 a text is the value
pub text_value : (s : List ℕ) (number w d next i n after : ℕ) → w ≡ 2 → TextAt s next i n after
    → ReadAt (value d (record { number = number; wire = w })) s next (LEN (take n (drop i s))) after
text_value s number w d next i n after e N =
    record { same = rw (e, value_2 d number (drop next s), N.same); inside = N.inside }

pub text_value_broken : (s : List ℕ) (number w d next : ℕ) → w ≡ 2 → length_delimited (drop next s) ≡ broken
    → value d (record { number = number; wire = w }) (drop next s) ≡ broken
text_value_broken s number w d next e N = rw (e, value_2 d number (drop next s), N)
