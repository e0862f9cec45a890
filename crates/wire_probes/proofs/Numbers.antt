-- A loop over numbers one behind the other: how it ends, breaks off and goes on. Assumes nothing.
use Rattle.std.specs.Prelude.{Some, None}
use Prim.Native.Nat.{ℕ, ◌-◌, ◌≤◌, ◌<◌}
use mathlib.Core.Path.{◌≡◌, refl, ap, ◌∙◌}
use mathlib.Core.List.{List, [], ◌∷◌}
use mathlib.Core.Option.{Option, none, some, map}
use native.Mathlib.Omega.{arith}
use lib.Bits.{bit_xor}
use lib.ListN.{length, drop, length-drop, drop_of_length-le}
use Rattle.wire.specs.Wire.{broken, digits, varint, many}
use Rattle.wire.specs.Laws.Wire.{reader_varint, moves}
use Rattle.wire.specs.Laws.Fields.{many_step}
use Rattle.wire.specs.Laws.At.{number_read, number_broken}
use Rattle.wire.specs.Promises.Places.{number_at}
use Rattle.wire.specs.declared.Cursor.{Cursor}
use Rattle.wire_probes.specs.Probes.{xor_of, xor_numbers}

varint_nil : varint [] ≡ broken
unfolding varint digits
varint_nil = refl

many_broken : (s : List ℕ) → 0 < length s → varint s ≡ broken → many varint (length s) s ≡ none
unfolding many
many_broken [] l e = absurd (omega arith)
many_broken (x ∷ s) l e = rw e

many_end : many varint 0 [] ≡ some []
unfolding many
many_end = refl

-- `acc` is the exclusive or of the numbers before `at`
abbrev pub Passed : List ℕ → ℕ → ℕ → Type 0
Passed s acc at = xor_numbers s ≡ xor_of acc (many varint (length (drop at s)) (drop at s))

module _ (s : List ℕ) (acc at : ℕ) (inv : Passed s acc at) where
  pub xor_ends : length s ≤ at → acc ≡ xor_numbers s
  xor_ends h = rw (inv, drop_of_length-le s h, many_end)

  pub xor_breaks : at < length s → None ≡ number_at s at → 0 ≡ xor_numbers s
  xor_breaks h e = rw (inv, many_broken (drop at s) (omega (arith, length-drop at s)) (number_broken s at e))

  module _ (n : ℕ) (c : Cursor) (e : Some (n, c) ≡ number_at s at) where
    pub xor_more : Passed s (bit_xor acc n) c.at
    xor_more =
        inv
        ∙ ap (xor_of acc)
        (many_step varint reader_varint varint_nil (drop at s) n (drop c.at s) (number_read s at n c e).same)
        ∙ go (many varint (length (drop c.at s)) (drop c.at s))
      where
        go : (o : Option (List ℕ)) → xor_of acc (map (λ l. n ∷ l) o) ≡ xor_of (bit_xor acc n) o
        go none = refl
        go (some l) = refl

    pub xor_less : length s - c.at < length s - at
    xor_less =
        let R = number_read s at n c e in
        omega (
          arith,
          moves varint reader_varint varint_nil (drop at s) n (drop c.at s) R.same,
          length-drop at s,
          length-drop c.at s,
        )
