-- Believe: 01, Questions before work. How large a feed's trips may be, and how long the lent slices are in which a
-- message's trips are worked out.
use Rattle.std.specs.Prelude.{ℕ}

-- the trips of a feed, and the updates of a trip
abbrev pub most_trips : ℕ
most_trips = 2048

abbrev pub most_updates : ℕ
most_updates = 128

-- the bytes of a key: a slot of `keys` has room for one
abbrev pub key_bytes : ℕ
key_bytes = 137

-- the bytes of a feed's id; of a trip's or a route's; of a start date, of a start time
abbrev pub most_feed : ℕ
most_feed = 16

abbrev pub most_id : ℕ
most_id = 64

abbrev pub most_date : ℕ
most_date = 16

abbrev pub most_time : ℕ
most_time = 16

-- the bytes of a message
abbrev pub most_message : ℕ
most_message = 1048576

-- the slots of the index are one more than a feed may have trips: a key in `keys`, three words in `marks`, one in
-- `order`
abbrev pub keys_length : ℕ
keys_length = 280713

abbrev pub marks_length : ℕ
marks_length = 6147

abbrev pub order_length : ℕ
order_length = 2049

abbrev pub updates_length : ℕ
updates_length = 387

-- a message has 1,048,576 bytes at most: a place of the index from here on is one of the old overlay's bytes
abbrev pub beyond : ℕ
beyond = 1048577

-- the bytes of the old overlay, so that a place of it fits 32 bits
abbrev pub most_old : ℕ
most_old = 4000000000
