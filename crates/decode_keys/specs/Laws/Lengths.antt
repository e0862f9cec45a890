-- Law. How many keys there are once one has gone in.
use Rattle.std.specs.Prelude.{ℕ, ◌≡◌, List, length}
use Rattle.std.proofs.Common.{sym, ap, ◌∙◌}
use Rattle.maps.specs.Map.{put}
use Rattle.maps.specs.Order.{texts}
use Rattle.decode_slots.specs.Index.{index}
use Rattle.decode_slots.specs.Laws.Slots.{index_length}
use Rattle.decode_keys.specs.Promises.Entity.{Filed}

pub filed_length : {keys marks order k keys' marks' order' : List ℕ} {n from to r : ℕ}
    → Filed keys marks order n k from to keys' marks' order' r
    → length (put texts k (from, to) (index keys marks order n)) ≡ r
filed_length {keys' = keys'} {marks' = marks'} {order' = order'} {r = r} F =
    sym (ap length F.map) ∙ index_length keys' marks' order' r F.sound
