-- Believe: 01, Cards and sheets. A universe of formats: one datatype, its values, the one writer and the one reader.
-- Ranges, limits and classes are annotations: they stand in a format, and are judged beside the form.
use Rattle.std.specs.Prelude.{◌≡◌, List, [], ◌∷◌, ◌++◌, ◌⊎◌, Bool, true, ℕ, ◌^◌, ◌<◌, ℤ, length, leb, ltb}
use Rattle.std.proofs.Math.Option.{none, some}
use Rattle.formats.specs.Readers.{Reader, pair_w, pair_r, map_r, only_r, const_r, choice_w, choice_r, choice_ok, bytes_r}
use Rattle.formats.specs.Readers.{many_w, many_r, counted_r}
use Rattle.basics.specs.Lists.{All}
use Rattle.formats.specs.Number.{number_w, number_r, zig, zag, little_w, little_r}
use Rattle.formats.specs.Class.{Class}

infixr 5 ◌&◌
pub data Format : Type 0 where
  never : Format  -- no value
  empty : Format  -- one value, in no bytes
  number : ℕ → ℕ → Format  -- a number, to be from the first to the second
  signed : ℤ → ℤ → Format  -- a signed number, to be from the first to the second
  small : ℕ → Format  -- a number up to this one: above it, the form is broken
  text : ℕ → Class → Format  -- a length and that many bytes, to be at most so many and of the class
  float : Format  -- eight bytes, low first: any number below 2^64
  constant : ℕ → Format  -- this byte
  list : ℕ → Format → Format  -- a count, to be at most this one, and that many values of a byte or more each
  choice : Format → Format → Format  -- 0 and a value of the one, or 1 and a value of the other
  ◌&◌ : Format → Format → Format  -- a value of the one, then of the other: a record is a & b & c

abbrev pub optional : Format → Format
optional f = choice empty f

abbrev pub Value : Format → Type 0
Value never = ⊥
Value empty = Unit {0}
Value (number lo hi) = ℕ
Value (signed lo hi) = ℤ
Value (small k) = ℕ
Value (text l c) = List ℕ
Value float = ℕ
Value (constant c) = Unit {0}
Value (list l f) = List (Value f)
Value (choice a b) = Value a ⊎ Value b
Value (a & b) = Value a × Value b

abbrev pub write : (f : Format) → Value f → List ℕ
write never = λ v. []
write empty = λ v. []
write (number lo hi) = number_w
write (signed lo hi) = λ v. number_w (zig v)
write (small k) = number_w
write (text l c) = λ v. number_w (length v) ++ v
write float = little_w 8
write (constant c) = λ v. c ∷ []
write (list l f) = λ v. number_w (length v) ++ many_w (write f) v
write (choice a b) = choice_w (write a) (write b)
write (a & b) = pair_w (write a) (write b)

-- whether a value takes a byte: an element of a list has to, so that a list has no more values than bytes
abbrev pub takes : (f : Format) → Value f → Bool
takes f v = ltb 0 (length (write f v))

abbrev pub read : (f : Format) → Reader (Value f)
read never = λ s. none
read empty = λ s. some (tt, s)
read (number lo hi) = number_r
read (signed lo hi) = map_r zag number_r
read (small k) = only_r (λ n. leb n k) number_r
read (text l c) = counted_r number_r bytes_r
read float = little_r 8
read (constant c) = const_r c
read (list l f) = counted_r number_r (many_r (only_r (takes f) (read f)))
read (choice a b) = choice_r (read a) (read b)
read (a & b) = pair_r (read a) (read b)

-- what has a writing
abbrev pub Fits : (f : Format) → Value f → Type 0
Fits never = λ v. Unit {0}
Fits empty = λ v. Unit {0}
Fits (number lo hi) = λ n. n < 2 ^ 64
Fits (signed lo hi) = λ z. zig z < 2 ^ 64
Fits (small k) = λ n. (n < 2 ^ 64) × (leb n k ≡ true)
Fits (text l c) = λ v. (length v < 2 ^ 64) × Unit {0}
Fits float = λ n. n < 2 ^ 64
Fits (constant c) = λ v. Unit {0}
Fits (list l f) = λ v. (length v < 2 ^ 64) × All (λ x. Fits f x × (takes f x ≡ true)) v
Fits (choice a b) = choice_ok (Fits a) (Fits b)
Fits (a & b) = λ v. Fits a v.0 × Fits b v.1
