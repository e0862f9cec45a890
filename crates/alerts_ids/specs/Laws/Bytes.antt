-- Law. A byte in capitals, a digit, a letter or a digit, by comparisons.
use Rattle.std.specs.Prelude.{◌≡◌, refl, Bool, true, false, ◌||◌, ℕ, ◌-◌, ◌≤◌, ◌<◌, leb}
use Rattle.std.proofs.Common.{sym, arith, le-leb}
use Rattle.std.proofs.lemmas.Bool.{lt-leb}
use Rattle.alerts.specs.Text.{upper_byte, digit, alphanumeric}

pub capital_low : (b : ℕ) → b < 97 → b ≡ upper_byte b
capital_low b h = sym (rw (lt-leb 97 b h) refl)

pub capital_high : (b : ℕ) → 97 ≤ b → 122 < b → b ≡ upper_byte b
capital_high b h g = sym (rw (le-leb 97 b h, lt-leb b 122 g) refl)

pub capital_letter : (b : ℕ) → 97 ≤ b → b ≤ 122 → b - 32 ≡ upper_byte b
capital_letter b h g = sym (rw (le-leb 97 b h, le-leb b 122 g) refl)

pub digit_low : (b : ℕ) → b < 48 → false ≡ digit b
digit_low b h = sym (rw (lt-leb 48 b h) refl)

pub digit_high : (b : ℕ) → 48 ≤ b → leb b 57 ≡ digit b
digit_high b h = sym (rw (le-leb 48 b h) refl)

pub letter_low : (b : ℕ) → b < 65 → digit b ≡ alphanumeric b
letter_low b h = sym (rw (lt-leb 65 b h, lt-leb 97 b (omega arith)) (or_nothing (digit b)))
  where
    or_nothing : (t : Bool) → t || false || false ≡ t
    or_nothing true = refl
    or_nothing false = refl

no_digit : (b : ℕ) → 57 < b → digit b ≡ false
no_digit b h = rw (le-leb 48 b (omega arith)) (lt-leb b 57 h)

pub letter_middle : (b : ℕ) → 65 ≤ b → b < 97 → leb b 90 ≡ alphanumeric b
letter_middle b h g = sym (rw (no_digit b (omega arith), le-leb 65 b h, lt-leb 97 b g) (or_nothing (leb b 90)))
  where
    or_nothing : (t : Bool) → t || false ≡ t
    or_nothing true = refl
    or_nothing false = refl

pub letter_high : (b : ℕ) → 97 ≤ b → leb b 122 ≡ alphanumeric b
letter_high b h =
    sym (rw (no_digit b (omega arith), le-leb 65 b (omega arith), lt-leb b 90 (omega arith), le-leb 97 b h) refl)
