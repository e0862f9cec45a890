-- Promise. What the code's answers are: what the wire format reads at a position, with the bytes that are left given
-- by where they start.
use Rattle.std.specs.Prelude.{ℕ, ◌-◌, List, length, drop, Option, Some, None}
use Rattle.wire.specs.Wire.{Read, broken, read, varint, Key, key, bytes, length_delimited, Value, value, in_group}
use Rattle.wire.specs.declared.Cursor.{Cursor}

-- the cursor at which r, the end of s, starts
abbrev pub cursor_at : List ℕ → List ℕ → Cursor
cursor_at s r = record { at = length s - length r }

abbrev pub got_number : List ℕ → Read ℕ → Option (ℕ × Cursor)
got_number s broken = None
got_number s (read n r) = Some (n, cursor_at s r)

abbrev pub got_key : List ℕ → Read Key → Option (ℕ × ℕ × Cursor)
got_key s broken = None
got_key s (read k r) = Some (k.number, k.wire, cursor_at s r)

-- the text x starts as many bytes before r as it is long
abbrev pub got_text : List ℕ → Read (List ℕ) → Option (ℕ × ℕ × Cursor)
got_text s broken = None
got_text s (read x r) = Some (length s - length r - length x, length x, cursor_at s r)

abbrev pub got_skipped : List ℕ → Read Value → Option Cursor
got_skipped s broken = None
got_skipped s (read v r) = Some (cursor_at s r)

abbrev pub number_at : List ℕ → ℕ → Option (ℕ × Cursor)
number_at s at = got_number s (varint (drop at s))

abbrev pub key_at : List ℕ → ℕ → Option (ℕ × ℕ × Cursor)
key_at s at = got_key s (key (drop at s))

abbrev pub bytes_at : List ℕ → ℕ → ℕ → Option (ℕ × ℕ × Cursor)
bytes_at s at n = got_text s (bytes n (drop at s))

abbrev pub text_at : List ℕ → ℕ → Option (ℕ × ℕ × Cursor)
text_at s at = got_text s (length_delimited (drop at s))

abbrev pub skipped_at : List ℕ → ℕ → ℕ → ℕ → ℕ → Option Cursor
skipped_at s at number wire depth = got_skipped s (value depth (record { number = number; wire = wire }) (drop at s))

abbrev pub group_at : List ℕ → ℕ → ℕ → ℕ → Option Cursor
group_at s at number depth = got_skipped s (in_group (value depth) number (drop at s))

abbrev pub past_number : Option (ℕ × Cursor) → Option Cursor
past_number (Some (n, c)) = Some c
past_number None = None

abbrev pub past_text : Option (ℕ × ℕ × Cursor) → Option Cursor
past_text (Some (i, n, c)) = Some c
past_text None = None
