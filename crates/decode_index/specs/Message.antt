-- Believe: the probes' answers. The tree of a message.
use Rattle.std.specs.Prelude.{ℕ, List}
use Rattle.realtime.specs.Tree.{Tree, tree}
use Rattle.realtime.specs.Schema.{feed_message}
use Rattle.realtime.specs.Schema as schema
use Rattle.decode_slots.specs.Places.{or_end}

abbrev pub message_tree : List ℕ → Tree
message_tree s = or_end (tree schema.feed feed_message s)
