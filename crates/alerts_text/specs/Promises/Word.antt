-- Promise. The marks of lines as the bits of a word.
use Rattle.std.specs.Prelude.{List, [], ◌∷◌, cond, ℕ, zero, suc, ◌+◌, ◌*◌, ◌/◌, ◌%◌, eqb}

abbrev pub bit_of : ℕ → ℕ
bit_of w = cond (eqb (w % 2) 1) 1 0

-- the n lowest bits, from the lowest on
unfoldable pub bits_of : ℕ → ℕ → List ℕ
bits_of zero w = []
bits_of (suc n) w = bit_of w ∷ bits_of n (w / 2)

unfoldable pub word_of : List ℕ → ℕ
word_of [] = 0
word_of (b ∷ l) = cond (eqb b 1) 1 0 + 2 * word_of l
