-- Law. The Unicode Standard's own examples of UTF-8 (definition D92): a text that is well formed, and three
-- sequences of which two are not.
use Rattle.std.specs.Prelude.{◌≡◌, refl, [], ◌∷◌, true, false}
use Rattle.formats.specs.Class.{utf8, in_class}

-- U+004D, U+0430, U+4E8C, U+10302
pub four_lengths : in_class utf8 (0x4D ∷ 0xD0 ∷ 0xB0 ∷ 0xE4 ∷ 0xBA ∷ 0x8C ∷ 0xF0 ∷ 0x90 ∷ 0x8C ∷ 0x82 ∷ []) ≡ true
four_lengths = refl

pub overlong_two : in_class utf8 (0xC0 ∷ 0xAF ∷ []) ≡ false
overlong_two = refl

pub overlong_three : in_class utf8 (0xE0 ∷ 0x9F ∷ 0x80 ∷ []) ≡ false
overlong_three = refl

pub last_plane : in_class utf8 (0xF4 ∷ 0x80 ∷ 0x83 ∷ 0x92 ∷ []) ≡ true
last_plane = refl

-- the first surrogate, and the first number past U+10FFFF
pub surrogate : in_class utf8 (0xED ∷ 0xA0 ∷ 0x80 ∷ []) ≡ false
surrogate = refl

pub past_last : in_class utf8 (0xF4 ∷ 0x90 ∷ 0x80 ∷ 0x80 ∷ []) ≡ false
past_last = refl
