-- Promise. What opening a buffer answers: where its state ends; and what it notes.
use Rattle.std.specs.Prelude.{◌≡◌, List, ℕ, length, Option, Some, None}
use Rattle.std.proofs.Math.Option.{Option as LogicOption, none, some}
use Rattle.formats.specs.Format.{write}
use Rattle.overlay.specs.State.{State, overlay}
use Rattle.overlay_noted.specs.Promises.Noted.{Noted}
use Rattle.overlay_noted.specs.Promises.Noting.{Fits}

abbrev pub ending : LogicOption State → Option ℕ
ending none = None
ending (some s) = Some (length (write overlay s))

-- of a buffer that is an overlay the places are noted
pub record Notes (s old new : List ℕ) (r : Option ℕ) : Type 0 where
  pub at : Fits s old → {p : ℕ} → r ≡ Some p → Noted s new
