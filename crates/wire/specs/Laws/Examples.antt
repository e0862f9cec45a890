-- Law. Worked examples of the public document, and the limits, as theorems.
use Rattle.std.specs.Prelude.{◌≡◌, refl, [], ◌∷◌, ◌++◌, replicate}
use Rattle.std.proofs.Math.Option.{some}
use Rattle.wire.specs.Wire.{broken, read, digits, varint, key, bytes, length_delimited, VARINT, I64, LEN, GROUP}
use Rattle.wire.specs.Wire.{I32}
use Rattle.wire.specs.Wire.{payload, until, value, field, many, fields}

-- 150 is 96 01
varint_150 : varint (0x96 ∷ 0x01 ∷ []) ≡ read 150 []
unfolding varint digits
varint_150 = refl

-- a longer form of 1 is a 1 too
varint_long : varint (0x81 ∷ 0x80 ∷ 0x00 ∷ 7 ∷ []) ≡ read 1 (7 ∷ [])
unfolding varint digits
varint_long = refl

-- the largest number, in ten bytes; a tenth byte of 2, and an eleventh byte, are broken
varint_top : varint (replicate 9 0xff ++ 0x01 ∷ []) ≡ read 18446744073709551615 []
unfolding varint digits
varint_top = refl

varint_over : varint (replicate 9 0xff ++ 0x02 ∷ []) ≡ broken
unfolding varint digits
varint_over = refl

varint_eleven : varint (replicate 10 0x80 ++ 0x00 ∷ []) ≡ broken
unfolding varint digits
varint_eleven = refl

-- a number that goes on behind the last byte
varint_cut : varint (0x96 ∷ []) ≡ broken
unfolding varint digits
varint_cut = refl

-- a key may take ten bytes; it is below 2 ^ 32
key_ten : key (0x88 ∷ replicate 8 0x80 ++ 0x00 ∷ []) ≡ read (record { number = 1; wire = 0 }) []
unfolding key varint digits
key_ten = refl

key_top : key (0xfd ∷ 0xff ∷ 0xff ∷ 0xff ∷ 0x0f ∷ []) ≡ read (record { number = 536870911; wire = 5 }) []
unfolding key varint digits
key_top = refl

key_over : key (0x80 ∷ 0x80 ∷ 0x80 ∷ 0x80 ∷ 0x10 ∷ []) ≡ broken
unfolding key varint digits
key_over = refl

-- field 1, 150: 08 96 01
field_150 : fields (0x08 ∷ 0x96 ∷ 0x01 ∷ []) ≡ some (record { number = 1; value = VARINT 150 } ∷ [])
unfolding fields many field value payload key varint digits
field_150 = refl

-- field 2, "testing": 12 07 74 65 73 74 69 6e 67
field_testing : fields (0x12 ∷ 0x07 ∷ 0x74 ∷ 0x65 ∷ 0x73 ∷ 0x74 ∷ 0x69 ∷ 0x6e ∷ 0x67 ∷ [])
    ≡ some (record { number = 2; value = LEN (0x74 ∷ 0x65 ∷ 0x73 ∷ 0x74 ∷ 0x69 ∷ 0x6e ∷ 0x67 ∷ []) } ∷ [])
unfolding fields many field value payload length_delimited bytes key varint digits
field_testing = refl

-- field 3, a message that is field 1, 150: 1a 03 08 96 01
field_message : fields (0x1a ∷ 0x03 ∷ 0x08 ∷ 0x96 ∷ 0x01 ∷ [])
    ≡ some (record { number = 3; value = LEN (0x08 ∷ 0x96 ∷ 0x01 ∷ []) } ∷ [])
unfolding fields many field value payload length_delimited bytes key varint digits
field_message = refl

-- eight bytes and four, as they stand; one fewer, and a length beyond the last byte, are broken
field_fixed : fields (0x09 ∷ 1 ∷ 2 ∷ 3 ∷ 4 ∷ 5 ∷ 6 ∷ 7 ∷ 8 ∷ 0x15 ∷ 1 ∷ 2 ∷ 3 ∷ 4 ∷ [])
    ≡ some (record { number = 1; value = I64 (1 ∷ 2 ∷ 3 ∷ 4 ∷ 5 ∷ 6 ∷ 7 ∷ 8 ∷ []) }
    ∷ record { number = 2; value = I32 (1 ∷ 2 ∷ 3 ∷ 4 ∷ []) } ∷ [])
unfolding fields many field value payload bytes key varint digits
field_fixed = refl

eight_cut : field 16 (0x09 ∷ 1 ∷ 2 ∷ 3 ∷ 4 ∷ 5 ∷ 6 ∷ 7 ∷ []) ≡ broken
unfolding field value payload bytes key varint digits
eight_cut = refl

four_cut : field 16 (0x15 ∷ 1 ∷ 2 ∷ 3 ∷ []) ≡ broken
unfolding field value payload bytes key varint digits
four_cut = refl

string_cut : field 16 (0x12 ∷ 0x03 ∷ 0x61 ∷ 0x62 ∷ []) ≡ broken
unfolding field value payload length_delimited bytes key varint digits
string_cut = refl

-- wire types 6 and 7
type_6 : field 16 (0x0e ∷ 0x00 ∷ []) ≡ broken
unfolding field value payload key varint digits
type_6 = refl

type_7 : field 16 (0x0f ∷ 0x00 ∷ []) ≡ broken
unfolding field value payload key varint digits
type_7 = refl

-- a group holds fields of every wire type, one of them a group again, and is closed by its own number
group_mixed : field 16 (0x0b ∷ 0x08 ∷ 0x05 ∷ 0x11 ∷ 1 ∷ 2 ∷ 3 ∷ 4 ∷ 5 ∷ 6 ∷ 7 ∷ 8 ∷ 0x1a ∷ 0x01 ∷ 0x0c
    ∷ 0x23 ∷ 0x24 ∷ 0x2d ∷ 1 ∷ 2 ∷ 3 ∷ 4 ∷ 0x0c ∷ 9 ∷ []) ≡ read (record { number = 1; value = GROUP }) (9 ∷ [])
unfolding field value until payload length_delimited bytes key varint digits
group_mixed = refl

-- by another's number, or not at all
group_crossed : field 16 (0x0b ∷ 0x13 ∷ 0x0c ∷ 0x14 ∷ []) ≡ broken
unfolding field value until payload key varint digits
group_crossed = refl

group_open : field 16 (0x0b ∷ 0x08 ∷ 0x05 ∷ []) ≡ broken
unfolding field value until payload key varint digits
group_open = refl

-- the field number 0, and a stray end of a group
field_zero : field 16 (0x00 ∷ 0x00 ∷ []) ≡ broken
unfolding field value payload key varint digits
field_zero = refl

field_end : field 16 (0x0c ∷ []) ≡ broken
unfolding field value payload key varint digits
field_end = refl

-- groups 16 deep, and 17
deep_16 : field 16 (replicate 16 0x0b ++ replicate 16 0x0c) ≡ read (record { number = 1; value = GROUP }) []
unfolding field value until payload key varint digits
deep_16 = refl

deep_17 : field 16 (replicate 17 0x0b ++ replicate 17 0x0c) ≡ broken
unfolding field value until payload key varint digits
deep_17 = refl
