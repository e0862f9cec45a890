-- Believe: 01, Cards and sheets. Numbers in bytes: groups of seven bits, low first, top bit set when another
-- follows, shortest form, below 2^64; signed numbers by them (zigzag); and a fixed number of whole bytes, low first
-- (little endian).
use Rattle.std.specs.Prelude.{List, [], ◌∷◌, cond, ℕ, zero, suc, ◌+◌, ◌-◌, ◌*◌, ◌/◌, ◌%◌, ℤ, pos, negsuc, ltb, eqb}
use Rattle.std.proofs.Math.Option.{none, some}
use Rattle.formats.specs.Readers.{Reader, bind}

abbrev pub groups_w : ℕ → ℕ → List ℕ
groups_w zero n = n ∷ []
groups_w (suc k) n = cond (ltb n 128) (n ∷ []) ((128 + n % 128) ∷ groups_w k (n / 128))

abbrev pub groups_r : ℕ → Reader ℕ
groups_r zero [] = none
groups_r zero (b ∷ s) = cond (ltb b 2) (some (b, s)) none
groups_r (suc k) [] = none
groups_r (suc k) (b ∷ s) =
    cond (ltb b 128) (some (b, s))
    (cond (ltb b 256) (bind (groups_r k s) (λ h t. cond (eqb h 0) none (some (b - 128 + 128 * h, t)))) none)

abbrev pub number_w : ℕ → List ℕ
number_w n = groups_w 9 n

abbrev pub number_r : Reader ℕ
number_r s = groups_r 9 s

-- signed n is 2n, or -2n-1 below zero
abbrev pub zig : ℤ → ℕ
zig (pos n) = 2 * n
zig (negsuc n) = 2 * n + 1

abbrev pub zag : ℕ → ℤ
zag n = cond (eqb (n % 2) 0) (pos (n / 2)) (negsuc (n / 2))

-- k bytes, low first
abbrev pub little_w : ℕ → ℕ → List ℕ
little_w zero n = []
little_w (suc k) n = n % 256 ∷ little_w k (n / 256)

abbrev pub little_r : ℕ → Reader ℕ
little_r zero s = some (0, s)
little_r (suc k) [] = none
little_r (suc k) (b ∷ s) = cond (ltb b 256) (bind (little_r k s) (λ h t. some (b + 256 * h, t))) none
