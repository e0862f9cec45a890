-- A field that is passed, whatever the schema says of it, on plain values.
use Rattle.std.specs.Prelude.{Some, None}
use Prim.Native.Nat.{ℕ, ◌<◌}
use mathlib.Core.Path.{◌≡◌, refl, sym, ◌∙◌}
use mathlib.Core.List.{List}
use mathlib.Core.Option.{Option, none, some, map}
use native.Mathlib.Omega.{arith}
use lib.ListN.{length, drop}
use Rattle.basics.specs.Options.{bind_o}
use Rattle.wire.specs.Promises.Places.{number_at, text_at, skipped_at}
use Rattle.wire.specs.declared.Cursor.{Cursor}
use Rattle.wire.specs.Wire.{key, Value, VARINT, I64, LEN, GROUP, I32, value}
use Rattle.wire.specs.Laws.At.{ReadAt, number_read, number_broken, text_read, text_broken, text_value}
use Rattle.wire.specs.Laws.At.{skipped_read, skipped_broken}
use Rattle.realtime.specs.Tree.{Kind, a_number, a_text, a_message, Schema, Tree, num, txt, msg, add_number, add_text}
use Rattle.realtime.specs.Tree.{add_message, add_field, tree}
use Rattle.realtime_read.specs.Laws.Passing.{Besides, beside_nothing, beside_number, beside_text, beside_message}
use Rattle.realtime_read.specs.Laws.Passing.{Passed}
use Rattle.realtime_read.proofs.Turn.{Here, turn, ahead, value_bad, bad_number, bad_text, number_value}

-- the tree behind a field, where there is a tree from the field on
abbrev Behind : ℕ → Option Tree → Tree → Type 0
Behind f q m = (y : Tree) × (q ≡ some y) × Besides f m y

module _ (f : ℕ) (m : Tree) where
  in_number : (v : Value) (q : Option Tree) → add_number f v q ≡ some m → Behind f q m
  in_number (VARINT n) none e = let z : ◌≡◌ {A = ℕ} 0 1 = cc in absurd (omega arith)
  in_number (VARINT n) (some y) e = let p : num f n y ≡ m = cc in (y, refl, beside_number n (sym p))
  in_number (I64 x) q e = let z : ◌≡◌ {A = ℕ} 0 1 = cc in absurd (omega arith)
  in_number (LEN x) q e = let z : ◌≡◌ {A = ℕ} 0 1 = cc in absurd (omega arith)
  in_number GROUP q e = let z : ◌≡◌ {A = ℕ} 0 1 = cc in absurd (omega arith)
  in_number (I32 x) q e = let z : ◌≡◌ {A = ℕ} 0 1 = cc in absurd (omega arith)

  in_text : (v : Value) (q : Option Tree) → add_text f v q ≡ some m → Behind f q m
  in_text (VARINT n) q e = let z : ◌≡◌ {A = ℕ} 0 1 = cc in absurd (omega arith)
  in_text (I64 x) q e = let z : ◌≡◌ {A = ℕ} 0 1 = cc in absurd (omega arith)
  in_text (LEN x) none e = let z : ◌≡◌ {A = ℕ} 0 1 = cc in absurd (omega arith)
  in_text (LEN x) (some y) e = let p : txt f x y ≡ m = cc in (y, refl, beside_text x (sym p))
  in_text GROUP q e = let z : ◌≡◌ {A = ℕ} 0 1 = cc in absurd (omega arith)
  in_text (I32 x) q e = let z : ◌≡◌ {A = ℕ} 0 1 = cc in absurd (omega arith)

  inner_message : (u : ℕ) (o q : Option Tree) → bind_o o (λ t. map (msg f u t) q) ≡ some m → Behind f q m
  inner_message u none q e = let z : ◌≡◌ {A = ℕ} 0 1 = cc in absurd (omega arith)
  inner_message u (some t) none e = let z : ◌≡◌ {A = ℕ} 0 1 = cc in absurd (omega arith)
  inner_message u (some t) (some y) e = let p : msg f u t y ≡ m = cc in (y, refl, beside_message u t (sym p))

  in_message : (inner : List ℕ → Option Tree) (u : ℕ) (v : Value) (q : Option Tree)
      → add_message inner f u v q ≡ some m → Behind f q m
  in_message inner u (VARINT n) q e = let z : ◌≡◌ {A = ℕ} 0 1 = cc in absurd (omega arith)
  in_message inner u (I64 x) q e = let z : ◌≡◌ {A = ℕ} 0 1 = cc in absurd (omega arith)
  in_message inner u (LEN x) q e = inner_message u (inner x) q e
  in_message inner u GROUP q e = let z : ◌≡◌ {A = ℕ} 0 1 = cc in absurd (omega arith)
  in_message inner u (I32 x) q e = let z : ◌≡◌ {A = ℕ} 0 1 = cc in absurd (omega arith)

  in_field : (inner : ℕ → List ℕ → Option Tree) (o : Option Kind) (v : Value) (q : Option Tree)
      → add_field inner o (record { number = f; value = v }) q ≡ some m → Behind f q m
  in_field inner none v q e = (m, e, beside_nothing refl)
  in_field inner (some a_number) v q e = in_number v q e
  in_field inner (some a_text) v q e = in_text v q e
  in_field inner (some (a_message u)) v q e = in_message (inner u) u v q e

module _ {σ : Schema} {t : ℕ} {s : List ℕ} {at : ℕ} (h : at < length s) {f next : ℕ} where
  pub here : {w : ℕ} → ReadAt key s at (record { number = f; wire = w }) next → Here σ t s at f w next
  here K = record { at = at; fwd = omega arith; more = h; inv = refl; keyed = K }

  over : {w : ℕ} → ReadAt key s at (record { number = f; wire = w }) next → (v : Value) (after : ℕ)
      → ReadAt (value 16 (record { number = f; wire = w })) s next v after
      → Passed σ t s at f after
  over K v after Q =
      record {
        ahead = ahead (here K) v after Q;
        inside = Q.inside;
        of = λ m e. in_field f m (tree σ) (σ t f) v (tree σ t (drop after s)) (sym (turn (here K) v after Q) ∙ e);
      }

  -- what was read behind the key
  pub passes : {w : ℕ} → ReadAt key s at (record { number = f; wire = w }) next → {c : Cursor}
      → Some c ≡ skipped_at s next f w 16
      → Passed σ t s at f c.at
  passes {w} K {c} e = let R = skipped_read s next f w 16 c e in over K R.0 c.at R.1

  pub passes_number : ReadAt key s at (record { number = f; wire = 0 }) next → {v : ℕ} {c : Cursor}
      → Some (v, c) ≡ number_at s next
      → Passed σ t s at f c.at
  passes_number K {v} {c} e =
      over K (VARINT v) c.at (number_value s f 0 next v c.at refl (number_read s next v c e))

  pub passes_text : ReadAt key s at (record { number = f; wire = 2 }) next → {i l : ℕ} {c : Cursor}
      → Some (i, l, c) ≡ text_at s next
      → Passed σ t s at f c.at
  passes_text K {i} {l} {c} e =
      over K _ c.at (text_value s f 2 16 next i l c.at refl (text_read s next i l c e))

-- nothing whole stands behind the key: there is no tree
module _ (σ : Schema) (t : ℕ) {s : List ℕ} {at : ℕ} (h : at < length s) {f next : ℕ} where
  pub breaks : {w : ℕ} → ReadAt key s at (record { number = f; wire = w }) next
      → None ≡ skipped_at s next f w 16
      → tree σ t (drop at s) ≡ none
  breaks {w} K e = (value_bad {σ = σ} {t = t} (here h K) (skipped_broken s next f w 16 e)).same

  pub breaks_number : ReadAt key s at (record { number = f; wire = 0 }) next → None ≡ number_at s next
      → tree σ t (drop at s) ≡ none
  breaks_number K e = (bad_number {σ = σ} {t = t} (here h K) refl (number_broken s next e)).same

  pub breaks_text : ReadAt key s at (record { number = f; wire = 2 }) next → None ≡ text_at s next
      → tree σ t (drop at s) ≡ none
  breaks_text K e = (bad_text {σ = σ} {t = t} (here h K) refl (text_broken s next e)).same
