-- Law. Worked examples.
use Rattle.std.specs.Prelude.{ℕ, ◌≡◌, refl, List, [], ◌∷◌}
use Rattle.std.proofs.Math.Option.{none, some}
use Rattle.wire.specs.Wire.{digits, varint, key, bytes, length_delimited, VARINT, GROUP, payload, until, value, field}
use Rattle.wire.specs.Wire.{many, fields}
use Rattle.realtime.specs.Tree.{end, num, txt, msg, tree, nest}
use Rattle.realtime.specs.Schema.{field_rows, feed}
use Rattle.realtime.specs.Gains.{Gains, same, gain, inside}
use Rattle.realtime.proofs.Laws.Gains.{gains_same_tree}
use Rattle.realtime.specs.Judge.{asked, rules}
use Rattle.realtime.specs.declared.Verdict.{Verdict}

-- f:1 cancelled, by an enum of 2 ^ 32 + 3
cancelled : List ℕ
cancelled = 0x12 ∷ 0x0d ∷ 0x1a ∷ 0x0b ∷ 0x0a ∷ 0x09 ∷ 0x0a ∷ 0x01 ∷ 0x31 ∷ 0x20 ∷ 0x83 ∷ 0x80 ∷ 0x80 ∷ 0x80 ∷ 0x10 ∷ []

cancelled_tree : tree feed 0 cancelled ≡
    some (msg 2 2 (msg 3 3 (msg 1 4 (txt 1 (0x31 ∷ []) (num 4 4294967299 end)) end) end) end)
unfolding cancelled tree nest feed field_rows fields many field value payload length_delimited bytes key varint digits
cancelled_tree = refl

-- every listed field, with its own value: header; entity with its trip_update, trip and one stop_time_update
every : List ℕ
every =
    0x0a ∷ 0x04 ∷ 0x10 ∷ 0x01 ∷ 0x18 ∷ 0x07
    ∷ 0x12 ∷ 0x2d ∷ 0x10 ∷ 0x00 ∷ 0x1a ∷ 0x29
    ∷ 0x0a ∷ 0x10 ∷ 0x0a ∷ 0x01 ∷ 0x31 ∷ 0x12 ∷ 0x01 ∷ 0x32 ∷ 0x1a ∷ 0x01 ∷ 0x33
    ∷ 0x20 ∷ 0x03 ∷ 0x2a ∷ 0x01 ∷ 0x35 ∷ 0x30 ∷ 0x01
    ∷ 0x12 ∷ 0x13 ∷ 0x08 ∷ 0x01 ∷ 0x12 ∷ 0x04 ∷ 0x08 ∷ 0x02 ∷ 0x10 ∷ 0x03 ∷ 0x1a ∷ 0x04 ∷ 0x08 ∷ 0x04 ∷ 0x10 ∷ 0x05
    ∷ 0x22 ∷ 0x01 ∷ 0x41 ∷ 0x28 ∷ 0x01
    ∷ 0x28 ∷ 0x09 ∷ []

every_tree : tree feed 0 every
    ≡ some (msg 1 1 (num 2 1 (num 3 7 end))
    (msg 2 2 (num 2 0 (msg 3 3
    (msg 1 4 (txt 1 (0x31 ∷ []) (txt 2 (0x32 ∷ []) (txt 3 (0x33 ∷ []) (num 4 3 (txt 5 (0x35 ∷ []) (num 6 1 end))))))
    (msg 2 5 (num 1 1 (msg 2 6 (num 1 2 (num 2 3 end))
    (msg 3 6 (num 1 4 (num 2 5 end)) (txt 4 (0x41 ∷ []) (num 5 1 end)))))
    (num 5 9 end))) end)) end))
unfolding every tree nest feed field_rows fields many field value payload length_delimited bytes key varint digits
every_tree = refl

-- unlisted fields of every wire type leave no trace
unlisted : tree feed 0 (0x18 ∷ 0x05 ∷ 0x21 ∷ 1 ∷ 2 ∷ 3 ∷ 4 ∷ 5 ∷ 6 ∷ 7 ∷ 8
    ∷ 0x2a ∷ 0x01 ∷ 0xff ∷ 0x7b ∷ 0x7c ∷ 0x35 ∷ 1 ∷ 2 ∷ 3 ∷ 4 ∷ [])
    ≡ some end
unfolding tree nest feed field_rows fields many field until value payload length_delimited bytes key varint digits
unlisted = refl

-- a listed field of another wire type: an entity as a number and as a group, a trip id as a number, a
-- timestamp of eight bytes
entity_number : tree feed 0 (0x10 ∷ 0x00 ∷ []) ≡ none
unfolding tree nest feed field_rows fields many field value payload key varint digits
entity_number = refl

entity_group : tree feed 0 (0x13 ∷ 0x14 ∷ []) ≡ none
unfolding tree nest feed field_rows fields many field until value payload key varint digits
entity_group = refl

id_number : tree feed 4 (0x08 ∷ 0x01 ∷ []) ≡ none
unfolding tree nest feed field_rows fields many field value payload key varint digits
id_number = refl

timestamp_eight : tree feed 1 (0x19 ∷ 1 ∷ 2 ∷ 3 ∷ 4 ∷ 5 ∷ 6 ∷ 7 ∷ 8 ∷ []) ≡ none
unfolding tree nest feed field_rows fields many field value payload bytes key varint digits
timestamp_eight = refl

-- the delay of a trip_update is a number: as a text it is broken
wrong_type : tree feed 3 (0x2a ∷ 0x01 ∷ 0x31 ∷ []) ≡ none
unfolding tree nest feed field_rows fields many field value payload length_delimited bytes key varint digits
wrong_type = refl

-- a time of -1 is a bad time, and a bad id before it or behind it is asked first
time_bad : asked rules 6
    (tree feed 6 (0x10 ∷ 0xff ∷ 0xff ∷ 0xff ∷ 0xff ∷ 0xff ∷ 0xff ∷ 0xff ∷ 0xff ∷ 0xff ∷ 0x01 ∷ [])) ≡ Verdict.Time
unfolding tree nest feed field_rows fields many field value payload length_delimited bytes key varint digits
time_bad = refl

id_first : asked rules 5
    (tree feed 5 (0x12 ∷ 0x06 ∷ 0x10 ∷ 0xff ∷ 0xff ∷ 0xff ∷ 0xff ∷ 0x7f ∷ 0x22 ∷ 0x01 ∷ 0x07 ∷ [])) ≡ Verdict.Text
unfolding tree nest feed field_rows fields many field value payload length_delimited bytes key varint digits
id_first = refl

-- an entity with an empty trip_update gains field 1, which is not listed there, and inside the trip_update a group,
-- which makes it longer: its length in two bytes
few : List ℕ
few = 0x1a ∷ 0x00 ∷ []

more : List ℕ
more = 0x08 ∷ 0x05 ∷ 0x1a ∷ 0x82 ∷ 0x00 ∷ 0x7b ∷ 0x7c ∷ []

gains_more : Gains feed 2 few more
unfolding few more feed field_rows field until value payload length_delimited bytes key varint digits
gains_more =
    gain (0x08 ∷ 0x05 ∷ []) (record { number = 1; value = VARINT 5 }) refl refl
    (inside 3 3 (0x1a ∷ []) (0x00 ∷ []) (0x82 ∷ 0x00 ∷ []) [] (0x7b ∷ 0x7c ∷ []) refl refl refl refl
    (gain (0x7b ∷ 0x7c ∷ []) (record { number = 15; value = GROUP }) refl refl same)
    same)

same_tree : tree feed 2 more ≡ tree feed 2 few
same_tree = gains_same_tree gains_more
