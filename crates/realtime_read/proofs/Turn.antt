-- A turn of the loop of `next`, on plain values.
use Rattle.std.specs.Prelude.{Some, None}
use Prim.Native.Nat.{ℕ, ◌-◌, ◌≤◌, ◌<◌}
use mathlib.Core.Path.{◌≡◌, refl, sym, ap, ◌∙◌}
use mathlib.Core.List.{List}
use mathlib.Core.Bool.{Bool, true, false, cond}
use mathlib.Core.Option.{Option, none, some}
use native.Mathlib.Omega.{arith}
use lib.ListN.{length, take, drop, length-drop, length-take, drop_of_length-le}
use borrow.Author.Tests.{eqb-true, eqb-false}
use lib.Dec.{eqb}
use Rattle.wire.specs.Promises.Places.{number_at, key_at, text_at}
use Rattle.wire.specs.declared.Cursor.{Cursor}
use Rattle.wire.specs.Wire.{Read, broken, read, varint, Key, key, length_delimited, Value, VARINT, I64, LEN, GROUP}
use Rattle.wire.specs.Wire.{I32, value, field}
use Rattle.wire.specs.Laws.Wire.{moves, reader_key, key_nil}
use Rattle.wire.specs.Laws.Values.{value_0, wire_of, value_wire}
use Rattle.wire.specs.Laws.At.{ReadAt, TextAt, key_read, field_read, field_less, field_broken_key, field_broken_value}
use Rattle.wire.specs.Laws.At.{number_read, number_broken, text_read, text_broken, text_value, text_value_broken}
use Rattle.realtime.specs.Tree.{Kind, a_number, a_text, a_message, Schema, Tree, add_number, add_text, add_message}
use Rattle.realtime.specs.Tree.{add_field, tree}
use Rattle.realtime.proofs.Laws.Tree.{tree_nil, tree_broken, tree_step, text_room}
use Rattle.realtime_read.specs.Promises.Schema.{holds}
use Rattle.realtime_read.specs.Promises.Steps.{number_behind, text_behind, Lies, Stepped}
use Rattle.realtime_read.specs.declared.Holds.{Holds}
use Rattle.realtime_read.specs.declared.Step.{Step}

-- what `kind_of` answered
pub is_unlisted : (o : Option Kind) → Holds.Unlisted ≡ holds o → o ≡ none
is_unlisted none e = refl
is_unlisted (some a_number) e = let z : ◌≡◌ {A = ℕ} 0 1 = cc in absurd (omega arith)
is_unlisted (some a_text) e = let z : ◌≡◌ {A = ℕ} 0 1 = cc in absurd (omega arith)
is_unlisted (some (a_message u)) e = let z : ◌≡◌ {A = ℕ} 0 1 = cc in absurd (omega arith)

pub is_number : (o : Option Kind) → Holds.Number ≡ holds o → o ≡ some a_number
is_number none e = let z : ◌≡◌ {A = ℕ} 0 1 = cc in absurd (omega arith)
is_number (some a_number) e = refl
is_number (some a_text) e = let z : ◌≡◌ {A = ℕ} 0 1 = cc in absurd (omega arith)
is_number (some (a_message u)) e = let z : ◌≡◌ {A = ℕ} 0 1 = cc in absurd (omega arith)

pub is_text : (o : Option Kind) → Holds.Text ≡ holds o → o ≡ some a_text
is_text none e = let z : ◌≡◌ {A = ℕ} 0 1 = cc in absurd (omega arith)
is_text (some a_number) e = let z : ◌≡◌ {A = ℕ} 0 1 = cc in absurd (omega arith)
is_text (some a_text) e = refl
is_text (some (a_message u)) e = let z : ◌≡◌ {A = ℕ} 0 1 = cc in absurd (omega arith)

pub is_message : (o : Option Kind) (v : ℕ) → Holds.Message v ≡ holds o → o ≡ some (a_message v)
is_message none v e = let z : ◌≡◌ {A = ℕ} 0 1 = cc in absurd (omega arith)
is_message (some a_number) v e = let z : ◌≡◌ {A = ℕ} 0 1 = cc in absurd (omega arith)
is_message (some a_text) v e = let z : ◌≡◌ {A = ℕ} 0 1 = cc in absurd (omega arith)
is_message (some (a_message u)) v e = let p : u ≡ v = cc in ap (λ k. some (a_message k)) p

-- a value of another wire type than the kind that is listed
not_number : (f : ℕ) (v : Value) (o : Option Tree) → (wire_of v ≡ 0 → ⊥) → add_number f v o ≡ none
not_number f (VARINT n) o h = absurd (h refl)
not_number f (I64 x) o h = refl
not_number f (LEN x) o h = refl
not_number f GROUP o h = refl
not_number f (I32 x) o h = refl

not_text : (f : ℕ) (v : Value) (o : Option Tree) → (wire_of v ≡ 2 → ⊥) → add_text f v o ≡ none
not_text f (VARINT n) o h = refl
not_text f (I64 x) o h = refl
not_text f (LEN x) o h = absurd (h refl)
not_text f GROUP o h = refl
not_text f (I32 x) o h = refl

not_message : (p : List ℕ → Option Tree) (f u : ℕ) (v : Value) (o : Option Tree) → (wire_of v ≡ 2 → ⊥)
    → add_message p f u v o ≡ none
not_message p f u (VARINT n) o h = refl
not_message p f u (I64 x) o h = refl
not_message p f u (LEN x) o h = absurd (h refl)
not_message p f u GROUP o h = refl
not_message p f u (I32 x) o h = refl

module _ {σ : Schema} {t : ℕ} {s : List ℕ} {from : ℕ} where
  pub at_end : {at : ℕ} → tree σ t (drop from s) ≡ tree σ t (drop at s) → length s ≤ at → Stepped σ t s from Step.End
  at_end {at} inv h =
      record { same = inv ∙ ap (tree σ t) (drop_of_length-le s h) ∙ tree_nil σ t; forward = tt; typed = tt }

  pub key_bad : {at : ℕ} → tree σ t (drop from s) ≡ tree σ t (drop at s) → at < length s → key (drop at s) ≡ broken
      → Stepped σ t s from Step.Broken
  key_bad {at} inv h e =
      record {
        same = inv ∙ tree_broken σ t (drop at s) (omega (
          arith,
          length-drop at s,
        )) (field_broken_key (drop at s) 16 e);
        forward = tt;
        typed = tt;
      }

-- behind a key of wire type 0 a varint is the value
pub number_value : (s : List ℕ) (number w next m after : ℕ) → w ≡ 0 → ReadAt varint s next m after
    → ReadAt (value 16 (record { number = number; wire = w })) s next (VARINT m) after
number_value s number w next m after e N =
    record { same = rw (e, value_0 16 number (drop next s), N.same); inside = N.inside }

-- the loop stands at `at`, where a key was read
pub record Here (σ : Schema) (t : ℕ) (s : List ℕ) (from n w next : ℕ) : Type 0 where
  pub at : ℕ
  pub fwd : from ≤ at
  pub more : at < length s
  pub inv : tree σ t (drop from s) ≡ tree σ t (drop at s)
  pub keyed : ReadAt key s at (record { number = n; wire = w }) next

abbrev pub here : {σ : Schema} {t : ℕ} {s : List ℕ} {from at n w : ℕ} {c : Cursor}
    → (tree σ t (drop from s) ≡ tree σ t (drop at s)) × (from ≤ at) → at < length s → Some (n, w, c) ≡ key_at s at
    → Here σ t s from n w c.at
here {s = s} {at = at} {n = n} {w = w} {c = c} I h e =
    record { at = at; fwd = I.1; more = h; inv = I.0; keyed = key_read s at n w c e }

module _ {σ : Schema} {t : ℕ} {s : List ℕ} {from n w next : ℕ} (H : Here σ t s from n w next) where
  abbrev k : Key
  k = record { number = n; wire = w }

  pub value_bad : value 16 (record { number = n; wire = w }) (drop next s) ≡ broken → Stepped σ t s from Step.Broken
  value_bad e =
      record {
        same = H.inv ∙ tree_broken σ t (drop H.at s) (omega (arith, length-drop H.at s, H.more))
            (field_broken_value s H.at 16 k next H.keyed e);
        forward = tt;
        typed = tt;
      }

  pub turn : (v : Value) (after : ℕ) → ReadAt (value 16 (record { number = n; wire = w })) s next v after
      → tree σ t (drop from s) ≡ add_field (tree σ) (σ t n) (record { number = n; value = v }) (tree σ t (drop after s))
  turn v after Q =
      H.inv ∙ tree_step σ t (drop H.at s) _ (drop after s) (field_read s H.at 16 k next v after H.keyed Q)

  pub less : (v : Value) (after : ℕ) → ReadAt (value 16 (record { number = n; wire = w })) s next v after
      → length s - after < length s - H.at
  less v after Q = field_less s H.at 16 k next v after H.keyed Q

  pub ahead : (v : Value) (after : ℕ) → ReadAt (value 16 (record { number = n; wire = w })) s next v after
      → from < after
  ahead v after Q = omega (arith, less v after Q, Q.inside, H.fwd)

  pub pass : (v : Value) (after : ℕ) → ReadAt (value 16 (record { number = n; wire = w })) s next v after → σ t n ≡ none
      → (tree σ t (drop from s) ≡ tree σ t (drop after s)) × (from ≤ after)
  pass v after Q e = (
    turn v after Q ∙ ap (λ j. add_field (tree σ) j (record { number = n; value = v }) (tree σ t (drop after s))) e,
    omega (arith, ahead v after Q),
  )

  -- another wire type than the kind that is listed
  wrong : (j : Kind) → σ t n ≡ some j
      → ((v : Value) (o : Option Tree) → wire_of v ≡ w
      → add_field (tree σ) (some j) (record { number = n; value = v }) o ≡ none)
      → Stepped σ t s from Step.Broken
  unfolding field
  wrong j e h = go (value 16 k (drop next s)) refl
    where
      go : (o : Read Value) → value 16 k (drop next s) ≡ o → Stepped σ t s from Step.Broken
      go broken e₁ = value_bad e₁
      go (read v r) e₁ =
          record {
            same = H.inv ∙ tree_step σ t (drop H.at s) (record { number = n; value = v }) r
                (rw (H.keyed.same, e₁))
                ∙ ap (λ i. add_field (tree σ) i (record { number = n; value = v }) (tree σ t r)) e
                ∙ h v (tree σ t r) (value_wire v r 16 k (drop next s) e₁);
            forward = tt;
            typed = tt;
          }

  wrong_number : σ t n ≡ some a_number → (w ≡ 0 → ⊥) → Stepped σ t s from Step.Broken
  wrong_number e h = wrong a_number e (λ v o p. not_number n v o (λ z. h (sym p ∙ z)))

  wrong_text : σ t n ≡ some a_text → (w ≡ 2 → ⊥) → Stepped σ t s from Step.Broken
  wrong_text e h = wrong a_text e (λ v o p. not_text n v o (λ z. h (sym p ∙ z)))

  wrong_message : (u : ℕ) → σ t n ≡ some (a_message u) → (w ≡ 2 → ⊥) → Stepped σ t s from Step.Broken
  wrong_message u e h = wrong (a_message u) e (λ v o p. not_message (tree σ u) n u v o (λ z. h (sym p ∙ z)))

  pub bad_number : w ≡ 0 → varint (drop next s) ≡ broken → Stepped σ t s from Step.Broken
  bad_number e h = value_bad (rw (e, value_0 16 n (drop next s), h))

  pub bad_text : w ≡ 2 → length_delimited (drop next s) ≡ broken → Stepped σ t s from Step.Broken
  bad_text e h = value_bad (text_value_broken s n w 16 next e h)

  a_number_turn : σ t n ≡ some a_number → w ≡ 0 → (m after : ℕ) → ReadAt varint s next m after
      → Stepped σ t s from (Step.Number n m after)
  a_number_turn e h m after N =
      let Q = number_value s n w next m after h N in
      record {
        same = turn (VARINT m) after Q
            ∙ ap (λ j. add_field (tree σ) j (record { number = n; value = VARINT m }) (tree σ t (drop after s))) e;
        forward = record { ahead = ahead (VARINT m) after Q; inside = N.inside };
        typed = e;
      }

  -- a text lies behind its key
  pub lies : (i l after : ℕ) → TextAt s next i l after → Lies s from i l after
  lies i l after N = record {
    ahead = omega (
      arith,
      text_room (drop next s) (take l (drop i s)) (drop after s) N.same,
      length-take l (drop i s),
      length-drop i s,
      length-drop next s,
      length-drop after s,
      moves key reader_key key_nil (drop H.at s) k (drop next s) H.keyed.same,
      length-drop H.at s,
      N.ends,
      N.inside,
      H.fwd,
      H.more,
    );
    ends = N.ends;
    inside = N.inside;
  }

  a_text_turn : σ t n ≡ some a_text → w ≡ 2 → (i l after : ℕ) → TextAt s next i l after
      → Stepped σ t s from (Step.Text n i l after)
  a_text_turn e h i l after N =
      record {
        same = turn _ after (text_value s n w 16 next i l after h N)
            ∙ ap (λ j. add_field (tree σ) j (record { number = n; value = LEN (take l (drop i s)) })
            (tree σ t (drop after s))) e;
        forward = lies i l after N;
        typed = e;
      }

  a_message_turn : (u : ℕ) → σ t n ≡ some (a_message u) → w ≡ 2 → (i l after : ℕ) → TextAt s next i l after
      → Stepped σ t s from (Step.Message n u i l after)
  a_message_turn u e h i l after N =
      record {
        same = turn _ after (text_value s n w 16 next i l after h N)
            ∙ ap (λ j. add_field (tree σ) j (record { number = n; value = LEN (take l (drop i s)) })
            (tree σ t (drop after s))) e;
        forward = lies i l after N;
        typed = e;
      }

  -- what the listed kinds have behind the key: nothing of theirs, or a value
  pub no_number : σ t n ≡ some a_number → None ≡ number_behind s next w → Stepped σ t s from Step.Broken
  no_number e = go (eqb w 0) refl
    where
      go : (b : Bool) → eqb w 0 ≡ b → None ≡ cond b (number_at s next) None
          → Stepped σ t s from Step.Broken
      go true p h = bad_number (eqb-true w 0 p) (number_broken s next h)
      go false p h = wrong_number e (eqb-false w 0 p)

  pub some_number : σ t n ≡ some a_number → {m : ℕ} {c : Cursor} → Some (m, c) ≡ number_behind s next w
      → Stepped σ t s from (Step.Number n m c.at)
  some_number e {m} {c} = go (eqb w 0) refl
    where
      go : (b : Bool) → eqb w 0 ≡ b → Some (m, c) ≡ cond b (number_at s next) None
          → Stepped σ t s from (Step.Number n m c.at)
      go true p h = a_number_turn e (eqb-true w 0 p) m c.at (number_read s next m c h)
      go false p h = let z : ◌≡◌ {A = ℕ} 0 1 = cc in absurd (omega arith)

  -- of a text, and of a message alike
  behind : {P : Type 0} {i l : ℕ} {c : Cursor} → Some (i, l, c) ≡ text_behind s next w
      → (w ≡ 2 → TextAt s next i l c.at → P) → P
  behind {P} {i} {l} {c} = go (eqb w 2) refl
    where
      go : (b : Bool) → eqb w 2 ≡ b → Some (i, l, c) ≡ cond b (text_at s next) None
          → (w ≡ 2 → TextAt s next i l c.at → P) → P
      go true p h q = q (eqb-true w 2 p) (text_read s next i l c h)
      go false p h q = let z : ◌≡◌ {A = ℕ} 0 1 = cc in absurd (omega arith)

  not_behind : ((w ≡ 2 → ⊥) → Stepped σ t s from Step.Broken) → None ≡ text_behind s next w
      → Stepped σ t s from Step.Broken
  not_behind q = go (eqb w 2) refl
    where
      go : (b : Bool) → eqb w 2 ≡ b → None ≡ cond b (text_at s next) None
          → Stepped σ t s from Step.Broken
      go true p h = bad_text (eqb-true w 2 p) (text_broken s next h)
      go false p h = q (eqb-false w 2 p)

  pub no_text : σ t n ≡ some a_text → None ≡ text_behind s next w → Stepped σ t s from Step.Broken
  no_text e = not_behind (wrong_text e)

  pub no_message : {u : ℕ} → σ t n ≡ some (a_message u) → None ≡ text_behind s next w
      → Stepped σ t s from Step.Broken
  no_message {u} e = not_behind (wrong_message u e)

  pub some_text : σ t n ≡ some a_text → {i l : ℕ} {c : Cursor} → Some (i, l, c) ≡ text_behind s next w
      → Stepped σ t s from (Step.Text n i l c.at)
  some_text e {i} {l} {c} h = behind h (λ p. a_text_turn e p i l c.at)

  pub some_message : {u : ℕ} → σ t n ≡ some (a_message u) → {i l : ℕ} {c : Cursor}
      → Some (i, l, c) ≡ text_behind s next w
      → Stepped σ t s from (Step.Message n u i l c.at)
  some_message {u} e {i} {l} {c} h = behind h (λ p. a_message_turn u e p i l c.at)
