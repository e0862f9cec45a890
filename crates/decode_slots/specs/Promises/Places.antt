-- Promise. A place of a message that can be read.
use Rattle.std.specs.Prelude.{ℕ, ◌≤◌, ◌≡◌, List, length}
use Rattle.std.proofs.Math.Option.{some}
use Rattle.realtime.specs.Tree.{Tree, tree}
use Rattle.realtime.specs.Schema as schema
use Rattle.decode_slots.specs.Index.{Place}
use Rattle.decode_slots.specs.Places.{bytes_in}

-- a message of type t that is not broken stands at p in s: forward, inside and readable, so that it can be asked
pub record Readable (t : ℕ) (s : List ℕ) (p : Place) : Type 0 where
  pub forward : p.0 ≤ p.1
  pub inside : p.1 ≤ length s
  pub message : Tree
  pub read : tree schema.feed t (bytes_in s p) ≡ some message
