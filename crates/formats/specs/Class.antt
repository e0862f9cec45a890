-- Believe: 01, Cards and sheets. Which texts a class has: judged beside the form. UTF-8 is the Unicode Standard's
-- table 3-7, "Well-Formed UTF-8 Byte Sequences", row by row.
use Rattle.std.specs.Prelude.{List, [], ◌∷◌, Bool, true, false, cond, not, ◌&&◌, ℕ, leb, eqb}
use Rattle.std.proofs.Math.Option.{Option, none, some}
use Rattle.basics.specs.Lists.{all}

pub data Class : Type 0 where
  any : Class  -- any bytes
  printable : Class  -- bytes of 32 to 126
  token : Class  -- one or more bytes of 33 to 126, none of them ':'
  utf8 : Class  -- well-formed UTF-8

-- a byte from the first to the second
abbrev pub Range : Type 0
Range = ℕ × ℕ

abbrev pub inside : Range → ℕ → Bool
inside r b = leb r.0 b && leb b r.1

abbrev pub trail : Range
trail = (0x80, 0xBF)

-- table 3-7: each row has the range of the first byte, the second, the third and the fourth
abbrev pub utf8_rows : List (List Range)
utf8_rows =
    ((0x00, 0x7F) ∷ [])  -- U+0000..U+007F
    ∷ ((0xC2, 0xDF) ∷ trail ∷ [])  -- U+0080..U+07FF
    ∷ ((0xE0, 0xE0) ∷ (0xA0, 0xBF) ∷ trail ∷ [])  -- U+0800..U+0FFF
    ∷ ((0xE1, 0xEC) ∷ trail ∷ trail ∷ [])  -- U+1000..U+CFFF
    ∷ ((0xED, 0xED) ∷ (0x80, 0x9F) ∷ trail ∷ [])  -- U+D000..U+D7FF
    ∷ ((0xEE, 0xEF) ∷ trail ∷ trail ∷ [])  -- U+E000..U+FFFF
    ∷ ((0xF0, 0xF0) ∷ (0x90, 0xBF) ∷ trail ∷ trail ∷ [])  -- U+10000..U+3FFFF
    ∷ ((0xF1, 0xF3) ∷ trail ∷ trail ∷ trail ∷ [])  -- U+40000..U+FFFFF
    ∷ ((0xF4, 0xF4) ∷ (0x80, 0x8F) ∷ trail ∷ trail ∷ [])  -- U+100000..U+10FFFF
    ∷ []

-- what is due after a first byte: the rest of its row
abbrev pub due : List (List Range) → ℕ → Option (List Range)
due [] b = none
due ([] ∷ more) b = due more b
due ((r ∷ rest) ∷ more) b = cond (inside r b) (some rest) (due more b)

-- what is due after a byte, where it is to be the first of these
abbrev pub next : List Range → ℕ → Option (List Range)
next [] b = due utf8_rows b
next (r ∷ rest) b = cond (inside r b) (some rest) none

abbrev pub goes_on : Option (List Range) → (List Range → Bool) → Bool
goes_on none k = false
goes_on (some rest) k = k rest

-- whether bytes are what is due, and whole sequences after it
abbrev pub sequences : List ℕ → List Range → Bool
sequences [] [] = true
sequences [] (r ∷ rest) = false
sequences (b ∷ s) rest = goes_on (next rest b) (λ rest. sequences s rest)

-- a byte of a class that is judged byte by byte
abbrev pub allowed : Class → ℕ → Bool
allowed any b = true
allowed printable b = inside (32, 126) b
allowed token b = inside (33, 126) b && not (eqb b 58)
allowed utf8 b = true

abbrev pub in_class : Class → List ℕ → Bool
in_class any v = true
in_class printable v = all (allowed printable) v
in_class token [] = false
in_class token (b ∷ v) = all (allowed token) (b ∷ v)
in_class utf8 v = sequences v []
