-- Believe: 01, Questions before work. What the questions of several calls have in common.
use Rattle.std.specs.Prelude.{ℕ, ◌≡◌, Bool, ◌&&◌, List, [], ◌∷◌, eqb, length}
use Rattle.std.proofs.Math.Option.{Option, none, some}
use Rattle.formats.specs.Class.{token}
use Rattle.formats.specs.Format.{Format, text, Value, read, write}
use Rattle.formats_judge.specs.Judged.{ok}
use Rattle.decode.specs.Sizes.{most_feed}
use Rattle.basics.specs.Texts.{same}
use Rattle.overlay.specs.State.{State, overlay}
use Rattle.overlay.specs.Image.{room, state_of}
use Rattle.overlay.specs.Buffer.{published}
use Rattle.panel.specs.Outcome.{Asks, ask, ask_some, accept}

-- the lengths of each call's working buffers, and those of calls without any
pub record Working : Type 0 where
  pub message : List ℕ
  pub alert_sheet : List ℕ
  pub vehicle_sheet : List ℕ
  pub card : List ℕ

abbrev pub no_work : Working
no_work = record { message = []; alert_sheet = []; vehicle_sheet = []; card = [] }

-- the lengths of the overlay, of a card's output, of an alert sheet's and of working buffers
pub record Lengths : Type 0 where
  pub overlay : ℕ
  pub card : ℕ
  pub sheet : ℕ
  pub work : Working

-- L keeps the lengths that the papers give; those of working buffers are the code's, as docs/ publishes them
pub record Published (L : Lengths) : Type 0 where
  pub overlay : L.overlay ≡ published
  pub card : L.card ≡ 65536
  pub sheet : L.sheet ≡ 1048576

-- a value that ends at the last byte
abbrev pub ended_only : {A : Type 0} → Option (A × List ℕ) → Option A
ended_only none = none
ended_only (some (v, [])) = some v
ended_only (some (v, b ∷ s)) = none

unfoldable pub whole : (f : Format) → List ℕ → Option (Value f)
whole f s = ended_only (read f s)

abbrev pub feed_ok : List ℕ → Bool
feed_ok f = ok 5 (text most_feed token) f

-- question 1: the old overlay's, the output's and the working buffers' lengths
abbrev pub lengths_ok : Lengths → List ℕ → ℕ → ℕ → List ℕ → List ℕ → Bool
lengths_ok L old out due work work_due = eqb (length old) L.overlay && (eqb out due && same work work_due)

-- question 2 opens the state; the questions that follow are put in its light
abbrev pub opened : Lengths → List ℕ → ℕ → ℕ → List ℕ → List ℕ → (State → Asks) → Asks
opened L old out due work work_due k = ask 1 (lengths_ok L old out due work work_due) (ask_some 2 (state_of old) k)

-- question 7 of a changed state, which has to have room in n bytes. At the published length there always is room
-- (`kept_room`)
abbrev pub counts_fit : ℕ → State → Bool
counts_fit n s = ok 7 overlay s && room n s

-- a changed state takes the place of the old buffer's, which holds nothing besides
abbrev pub changed : Lengths → List ℕ → State → Asks
changed L old s = ask 7 (counts_fit L.overlay s) (accept (write overlay s))
