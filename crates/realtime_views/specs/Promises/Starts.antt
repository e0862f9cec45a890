-- Promise. Where a walk starts: at all the messages at field a merged, or at one message alone.
use Rattle.std.specs.Prelude.{ℕ, List, length}
use Rattle.realtime_views.specs.declared.Walk.{Walk}

-- from `from` on, where no message is open
abbrev pub at_merged : ℕ → Walk
at_merged from = record { outer = from; end = from; at = from }

-- in one message, from `from` up to `end`, with nothing behind it
abbrev pub at_items : ℕ → ℕ → Walk
at_items from end = record { outer = end; end = end; at = from }

-- in the message s itself
abbrev pub at_plain : List ℕ → Walk
at_plain s = at_items 0 (length s)
