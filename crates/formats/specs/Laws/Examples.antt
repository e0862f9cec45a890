-- Law. Small inputs, read: the shortest form, the tenth byte, signed numbers, and lists.
use Rattle.std.specs.Prelude.{◌≡◌, refl, List, [], ◌∷◌, ℕ, ◌-◌, ◌^◌, negsuc}
use Rattle.std.proofs.Math.Option.{Option, none, some}
use Rattle.formats.specs.Format.{Format, empty, number, signed, list, Value, read}
use Rattle.formats.specs.Number.{zag}

abbrev Result : Format → Type 0
Result f = Option (Value f × List ℕ)

pub two_groups : ◌≡◌ {A = Result (number 0 999)} (read (number 0 999) (0xAC ∷ 0x02 ∷ [])) (some (300, []))
two_groups = refl

pub not_shortest : ◌≡◌ {A = Result (number 0 999)} (read (number 0 999) (0x80 ∷ 0x00 ∷ [])) none
not_shortest = refl

pub largest :
    ◌≡◌ {A = Result (number 0 999)}
    (read (number 0 999) (0xFF ∷ 0xFF ∷ 0xFF ∷ 0xFF ∷ 0xFF ∷ 0xFF ∷ 0xFF ∷ 0xFF ∷ 0xFF ∷ 0x01 ∷ []))
    (some (2 ^ 64 - 1, []))
largest = refl

pub too_large :
    ◌≡◌ {A = Result (number 0 999)}
    (read (number 0 999) (0xFF ∷ 0xFF ∷ 0xFF ∷ 0xFF ∷ 0xFF ∷ 0xFF ∷ 0xFF ∷ 0xFF ∷ 0xFF ∷ 0x02 ∷ [])) none
too_large = refl

pub minus_one : ◌≡◌ {A = Result (signed (zag 0) (zag 9))} (read (signed (zag 0) (zag 9)) (1 ∷ [])) (some (negsuc 0, []))
minus_one = refl

pub two_values : ◌≡◌ {A = Result (list 9 (number 0 9))} (read (list 9 (number 0 9)) (2 ∷ 7 ∷ 8 ∷ 9 ∷ []))
    (some (7 ∷ 8 ∷ [], 9 ∷ []))
two_values = refl

-- a value of a list takes a byte
pub no_bytes : ◌≡◌ {A = Result (list 9 empty)} (read (list 9 empty) (1 ∷ 7 ∷ [])) none
no_bytes = refl
