-- Law. A loop over the fields of a message, for the crates that read one: the invariant is `made f b₀ (fields s) ≡
-- made f b (fields (drop at s))`, with b what was made so far and `at` the next field's position. Here is how the
-- loop ends, breaks off and goes on.
use Rattle.std.specs.Prelude.{ℕ, ◌≤◌, ◌<◌, ◌≡◌, List, length, drop}
use Rattle.std.proofs.Common.{ap, ◌∙◌, arith, length-drop, drop_of_length-le}
use Rattle.std.proofs.Math.Option.{none, some}
use Rattle.wire.specs.Wire.{broken, Key, key, Value, value, Field, field, fields}
use Rattle.wire.specs.Laws.Fields.{made, made_step, fields_nil, fields_broken}
use Rattle.wire.specs.Laws.At.{ReadAt, field_read}

module _ {B : Type 0} (f : B → Field → B) (b₀ : B) (s : List ℕ) (at : ℕ) (b : B)
    (inv : made f b₀ (fields s) ≡ made f b (fields (drop at s))) where
  pub walk_ends : length s ≤ at → some b ≡ made f b₀ (fields s)
  walk_ends h = rw (inv, drop_of_length-le s h, fields_nil)

  pub walk_breaks : at < length s → field 16 (drop at s) ≡ broken → none ≡ made f b₀ (fields s)
  walk_breaks h e = rw (inv, fields_broken (drop at s) (omega (arith, length-drop at s)) e)

  pub walk_turn : (k : Key) (next : ℕ) (v : Value) (after : ℕ) → ReadAt key s at k next
      → ReadAt (value 16 k) s next v after
      → (b' : B) → f b (record { number = k.number; value = v }) ≡ b'
      → made f b₀ (fields s) ≡ made f b' (fields (drop after s))
  walk_turn k next v after K Q b' e =
      inv ∙ made_step f b (drop at s) _ (drop after s) (field_read s at 16 k next v after K Q)
      ∙ ap (λ j. made f j (fields (drop after s))) e
