-- Promise. The places of a feed's alerts by their numbers.
use Rattle.std.specs.Prelude.{◌≡◌, List, ℕ, ◌≤◌, ◌<◌, length, get_or, set}
use Rattle.basics.specs.Lists.{All}
use Rattle.formats.specs.Format.{list}
use Rattle.formats_read.specs.Promises.Here.{Here}
use Rattle.alerts.specs.Alert.{alert, Alert}
use Rattle.alerts.specs.Index.{numbered}

-- p was kept at i
pub record Kept (old new : List ℕ) (i p : ℕ) : Type 0 where
  pub kept : length new ≡ length old
  pub is : i < length old → p < 4294967296 → new ≡ set old i p

-- an alert that stands at p
abbrev pub Stands : List ℕ → ℕ → Alert → Type 0
Stands s p a = (q : ℕ) × Here alert s p q a

-- of the alerts at p, r in number, each stands at its place
pub record Noted (s : List ℕ) (p r : ℕ) (old new : List ℕ) : Type 0 where
  pub kept : length new ≡ length old
  pub count : {l : List Alert} {q : ℕ} → Here (list 256 alert) s p q l → r ≡ length l
  pub each : {l : List Alert} {q : ℕ} → Here (list 256 alert) s p q l → length l ≤ length old → length s < 4294967296
      → (i : ℕ) → All (Stands s (get_or new i 0)) (numbered l i)
