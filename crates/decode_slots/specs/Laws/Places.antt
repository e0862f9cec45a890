-- Law. A message that was met in a walk can be read at its place.
use Rattle.std.specs.Prelude.{ℕ, ◌+◌, ◌-◌, ◌≤◌, ◌≡◌, List, length, take, drop}
use Rattle.std.proofs.Common.{ap, ◌∙◌, arith}
use Rattle.std.proofs.Math.Option.{some}
use Rattle.realtime.specs.Tree.{Tree, tree}
use Rattle.realtime.specs.Schema as schema
use Rattle.decode_slots.specs.Places.{bytes_in}
use Rattle.decode_slots.specs.Promises.Places.{Readable}

-- l bytes at i
module _ (t : ℕ) (s : List ℕ) (i l : ℕ) (m : Tree) (r : tree schema.feed t (take l (drop i s)) ≡ some m) where
  pub read_at : tree schema.feed t (bytes_in s (i, i + l)) ≡ some m
  read_at = let z : i + l - i ≡ l = omega arith in ap (λ k. tree schema.feed t (take k (drop i s))) z ∙ r

  pub readable_at : i + l ≤ length s → Readable t s (i, i + l)
  readable_at h = record { forward = omega arith; inside = h; message = m; read = read_at }
