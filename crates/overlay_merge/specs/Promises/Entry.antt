-- Promise. What is read of an entry: its key, when it was told, where it ends.
use Rattle.std.specs.Prelude.{◌≡◌, List, ℕ, ◌≤◌, length}
use Rattle.std.proofs.Math.Seq.{slice}
use Rattle.formats.specs.Number.{zig}
use Rattle.formats.specs.Format.{Value}
use Rattle.formats_read.specs.Promises.Here.{Here}
use Rattle.overlay.specs.State.{vehicle_entry, updated_of}

-- the entry at p: its key is the bytes from a up to e, its time has the code u, and it ends at r
pub record ReadsEntry (s : List ℕ) (p a e u r : ℕ) : Type 0 where
  pub key : {v : Value vehicle_entry} {q : ℕ} → Here vehicle_entry s p q v → slice a e s ≡ v.0
  pub updated : {v : Value vehicle_entry} {q : ℕ} → Here vehicle_entry s p q v → u ≡ zig (updated_of v.1)
  pub next : {v : Value vehicle_entry} {q : ℕ} → Here vehicle_entry s p q v → r ≡ q
  pub forward : a ≤ e
  pub within : e ≤ length s
