-- Law. Worked examples: whole messages of feed f.
use Rattle.std.specs.Prelude.{ℕ, ◌≡◌, refl, List, [], ◌∷◌, ℤ, pos, negsuc}
use Rattle.std.proofs.Common.{inl, inr}
use Rattle.std.proofs.Math.Option.{Option, some}
use Rattle.wire.specs.Wire.{digits, varint, key, bytes, length_delimited, payload, value, field, many, fields}
use Rattle.slices.specs.Lists.{lex_of}
use Rattle.realtime.specs.Tree.{end, num, txt, msg, tree, nest}
use Rattle.realtime.specs.Schema.{field_rows, feed}
use Rattle.decode.specs.Trip.{StopUpdate, update_with, trip_with}
use Rattle.basics.specs.Options.{Maybe}
use Rattle.decode.specs.Record.{update_in, updates_in, trip_in}
use Rattle.decode.specs.Key.{incomplete_key, entries_in}
use Rattle.decode.specs.Leaves.{Trips, entries, leaves}
use Rattle.decode.specs.Laws.Leaves.{left}

-- what a message leaves of the trips of feed f, of which there was one, f:1 with a delay of 7
abbrev after : List ℕ → Option Trips
after m = left (0x66 ∷ []) m ((0x31 ∷ [], trip_with (inr (pos 7)) 0 [] [] (inl tt) [] []) ∷ [])

-- f:1 alone, with its delay, whether it is cancelled, and its updates
abbrev one : Maybe ℤ → ℕ → List (ℕ × StopUpdate) → Option Trips
one d c u = some ((0x31 ∷ [], trip_with d c [] [] (inl tt) [] u) ∷ [])

-- the empty message clears
empty : after [] ≡ some []
unfolding leaves entries tree nest feed field_rows fields many field value payload length_delimited bytes key varint
    digits
empty = refl

-- an enum of 2 ^ 32 + 3 cancels; of 3 and then 99 the last one stands
cancelled : after
    (0x12 ∷ 0x0d ∷ 0x1a ∷ 0x0b ∷ 0x0a ∷ 0x09 ∷ 0x0a ∷ 0x01 ∷ 0x31 ∷ 0x20 ∷ 0x83 ∷ 0x80 ∷ 0x80 ∷ 0x80 ∷ 0x10 ∷ []) ≡
    one (inl tt) 1 []
unfolding leaves entries entries_in trip_in updates_in tree nest feed field_rows fields many field value payload
    length_delimited bytes key varint digits
cancelled = refl

unknown : after (0x12 ∷ 0x0b ∷ 0x1a ∷ 0x09 ∷ 0x0a ∷ 0x07 ∷ 0x0a ∷ 0x01 ∷ 0x31 ∷ 0x20 ∷ 0x03 ∷ 0x20 ∷ 0x63 ∷ []) ≡
    one (inl tt) 0 []
unfolding leaves entries entries_in trip_in updates_in tree nest feed field_rows fields many field value payload
    length_delimited bytes key varint digits
unknown = refl

-- is_deleted of 2 ^ 32, behind the update; and 1, then 0
deleted : after
    (0x12 ∷ 0x0d ∷ 0x1a ∷ 0x05 ∷ 0x0a ∷ 0x03 ∷ 0x0a ∷ 0x01 ∷ 0x31 ∷ 0x10 ∷ 0x80 ∷ 0x80 ∷ 0x80 ∷ 0x80 ∷ 0x10 ∷ []) ≡
    some []
unfolding leaves entries entries_in trip_in updates_in tree nest feed field_rows fields many field value payload
    length_delimited bytes key varint digits
deleted = refl

restored : after (0x12 ∷ 0x0b ∷ 0x10 ∷ 0x01 ∷ 0x1a ∷ 0x05 ∷ 0x0a ∷ 0x03 ∷ 0x0a ∷ 0x01 ∷ 0x31 ∷ 0x10 ∷ 0x00 ∷ []) ≡
    one (inl tt) 0 []
unfolding leaves entries entries_in trip_in updates_in tree nest feed field_rows fields many field value payload
    length_delimited bytes key varint digits
restored = refl

-- DIFFERENTIAL as 2 ^ 32 + 1: the trips stay
stay : after (0x0a ∷ 0x06 ∷ 0x10 ∷ 0x81 ∷ 0x80 ∷ 0x80 ∷ 0x80 ∷ 0x10 ∷ []) ≡ one (inr (pos 7)) 0 []
unfolding leaves entries tree nest feed field_rows fields many field value payload length_delimited bytes key varint
    digits
stay = refl

-- a delay of -60 in a second trip_update
merged_delay : after
    (0x12 ∷ 0x14 ∷ 0x1a ∷ 0x05 ∷ 0x0a ∷ 0x03 ∷ 0x0a ∷ 0x01 ∷ 0x31 ∷ 0x1a ∷ 0x0b ∷ 0x28 ∷ 0xc4 ∷ 0xff ∷ 0xff ∷ 0xff
    ∷ 0xff ∷ 0xff ∷ 0xff ∷ 0xff ∷ 0xff ∷ 0x01 ∷ []) ≡ one (inr (negsuc 59)) 0 []
unfolding leaves entries entries_in trip_in updates_in tree nest feed field_rows fields many field value payload
    length_delimited bytes key varint digits
merged_delay = refl

-- sequences 2 ^ 32 + 1 and 1 are one: the later update stands whole
replaced : after
    (0x12 ∷ 0x1b ∷ 0x1a ∷ 0x19 ∷ 0x0a ∷ 0x03 ∷ 0x0a ∷ 0x01 ∷ 0x31 ∷ 0x12 ∷ 0x0a ∷ 0x08 ∷ 0x81 ∷ 0x80 ∷ 0x80 ∷ 0x80
    ∷ 0x10 ∷ 0x12 ∷ 0x02 ∷ 0x08 ∷ 0x09 ∷ 0x12 ∷ 0x06 ∷ 0x08 ∷ 0x01 ∷ 0x12 ∷ 0x02 ∷ 0x08 ∷ 0x05 ∷ [])
    ≡ one (inl tt) 0 ((1, update_with [] (inr (pos 5)) (inl tt) (inl tt) (inl tt) 0) ∷ [])
unfolding lex_of leaves entries entries_in trip_in updates_in update_in tree nest feed field_rows fields many field
    value
    payload length_delimited bytes key varint digits
replaced = refl

-- trip id 1 dated 2: both keys, and the count has one. Without a trip id the key is #r=f:7&d=10&sd=&st=
dated : entries_in (0x66 ∷ []) (msg 3 3 (msg 1 4 (txt 1 (0x31 ∷ []) (txt 3 (0x32 ∷ []) end)) end) end)
    ≡ (0x31 ∷ 0x40 ∷ 0x32 ∷ [], trip_with (inl tt) 0 (0x32 ∷ []) [] (inl tt) [] [])
    ∷ (0x31 ∷ [], trip_with (inl tt) 0 (0x32 ∷ []) [] (inl tt) [] []) ∷ []
unfolding entries_in trip_in updates_in
dated = refl

incomplete : entries_in (0x66 ∷ []) (msg 3 3 (msg 1 4 (txt 5 (0x37 ∷ []) (num 6 10 end)) end) end)
    ≡ (
      0x23 ∷ 0x72 ∷ 0x3d ∷ 0x66 ∷ 0x3a ∷ 0x37 ∷ 0x26 ∷ 0x64 ∷ 0x3d ∷ 0x31 ∷ 0x30
          ∷ 0x26 ∷ 0x73 ∷ 0x64 ∷ 0x3d ∷ 0x26 ∷ 0x73 ∷ 0x74 ∷ 0x3d ∷ [],
      trip_with (inl tt) 0 [] (0x37 ∷ []) (inr 10) [] [],
    ) ∷ []
unfolding entries_in trip_in updates_in incomplete_key
incomplete = refl
