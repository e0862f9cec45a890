-- Believe: 01, Cards and sheets. WHERE A FORM ENDS: bytes after a finished card, and after a sheet that a call gives
-- (02, C-11), are zero; a form may end with zeros of its own.
use Rattle.std.specs.Prelude.{ℕ, zero, suc, ◌-◌, List, length}
use Rattle.std.proofs.Math.Option.{Option, none, some}
use Rattle.formats.specs.Format.{Format, never, read}
use Rattle.alerts.specs.Alert.{alert_sheet}
use Rattle.overlay.specs.State.{vehicle_sheet}
use Rattle.journey.specs.Card.{card}

-- the form of a kind: a card, an alert sheet, a vehicle sheet; no other kind has one
abbrev pub form_of : ℕ → Format
form_of zero = card
form_of (suc zero) = alert_sheet
form_of (suc (suc zero)) = vehicle_sheet
form_of (suc (suc (suc kind))) = never

-- how many of the bytes were read: all but the rest; 0 where there was nothing to read
abbrev pub taken : {A : Type 0} → List ℕ → Option (A × List ℕ) → ℕ
taken s none = 0
taken s (some (v, rest)) = length s - length rest

-- how many bytes the form has that stands in front, whatever follows
unfoldable pub end : ℕ → List ℕ → ℕ
end kind s = taken s (read (form_of kind) s)
