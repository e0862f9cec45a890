-- Promise. What the merge writes.
use Rattle.std.specs.Prelude.{◌≡◌, true, false, List, [], ℕ, ℤ, pos, ◌-ℤ◌, Option}
use Rattle.maps.specs.Map.{puts}
use Rattle.maps.specs.Order.{texts}
use Rattle.formats.specs.Readers.{many_w}
use Rattle.formats.specs.Number.{zag}
use Rattle.formats.specs.Format.{write}
use Rattle.formats_write.specs.Promises.Adds.{Adds}
use Rattle.overlay.specs.State.{Vehicle, Vehicles, vehicle_entry}
use Rattle.overlay.specs.Change.{without_stale}
use Rattle.overlay_merge.specs.declared.Turn.{Turn}
use Rattle.overlay_merge.specs.Promises.Merge.{Both, In}

-- the entry of a turn is written where it stays
pub record PutsEntry (l : List ℕ) (r : Option ℕ) (m : List ℕ) (q : Option ℕ) (sheet old : List ℕ)
    (t : Turn) : Type 0 where
  pub kept : (v : List ℕ × Vehicle) → In t.sheet sheet old t.from t.to v → t.keep ≡ true
      → Adds l r m q (write vehicle_entry v)
  pub gone : t.keep ≡ false → Adds l r m q []

-- all that the merge leaves
pub record Writes (l : List ℕ) (r : Option ℕ) (o : List ℕ) (k : Option ℕ) (sheet : List ℕ) (a n : ℕ) (old : List ℕ)
    (b m limit : ℕ) : Type 0 where
  pub of : (xs ys : Vehicles) (clock : ℤ) → zag limit ≡ clock -ℤ pos 900 → Both sheet a n old b m xs ys
      → Adds l r o k (many_w (write vehicle_entry) (without_stale clock (puts texts xs ys)))
