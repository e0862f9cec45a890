-- Believe: the probes' answers. What the probes of alerts answer.
use Rattle.std.specs.Prelude.{◌≡◌, List, [], Bool, false, cond, not, ◌&&◌, ℕ, ◌+◌, ◌≤◌, ◌<◌, ltb, leb, eqb, length, take}
use Rattle.std.proofs.Common.{inl, inr}
use Rattle.std.proofs.Math.Option.{Option, none, some}
use Rattle.std.proofs.Math.Seq.{slice}
use Rattle.basics.specs.Lists.{member}
use Rattle.formats.specs.Format.{read}
use Rattle.formats_judge.specs.Judged.{verdict}
use Rattle.alerts.specs.Alert.{alert, Alert}
use Rattle.alerts.specs.Applies.{alert_text_compatible_with_leg, alert_applies_to_leg_with_mode, idfm_product_to_short}
use Rattle.alerts.specs.Label.{label}

-- an alert by its header and its description alone
abbrev pub saying : List ℕ → List ℕ → Alert
saying h d = (inr h, (inr d, (inl tt, ([], ([], [])))))

-- whether it may be about the line: no where the buffer has no room, or the name has a space
abbrev pub texts_fit : ℕ → List ℕ → List ℕ → List ℕ → Bool
texts_fit room h d short =
    ltb (length h + length d + length short) room && (not (member 32 short)
    && alert_text_compatible_with_leg (saying h d) short)

-- whether an alert was read, within its limits
abbrev pub is_fine : Option (Alert × List ℕ) → Bool
is_fine none = false
is_fine (some x) = eqb (verdict alert x.0) 0

-- whether the alert in front of the bytes applies to a leg: 2 where none within its limits stands there, 3 where there
-- is no room for its texts
abbrev pub applies_in : Option (Alert × List ℕ) → List ℕ → List ℕ → List ℕ → List ℕ → List ℕ → List ℕ → ℕ
applies_in none trip route short from to mode = 2
applies_in (some x) trip route short from to mode =
    cond (is_fine (some x)) (cond (alert_applies_to_leg_with_mode x.0 trip route short from to mode) 1 0) 2

abbrev pub applies_to : ℕ → List ℕ → List ℕ → List ℕ → List ℕ → List ℕ → List ℕ → List ℕ → ℕ
applies_to room s trip route short from to mode =
    cond (leb 2626 room && leb (length short) 64) (applies_in (read alert s) trip route short from to mode) 3

-- its label: no bytes where none within its limits stands there
abbrev pub label_in : Option (Alert × List ℕ) → List ℕ
label_in none = []
label_in (some x) = cond (is_fine (some x)) (label x.0) []

-- the part that the probe of labels gives
pub record LabelShown (s : List ℕ) (a e : ℕ) : Type 0 where
  pub is : slice a e s ≡ label_in (read alert s)
  pub forward : a ≤ e
  pub within : e ≤ length s

-- the name of a product code's line: no bytes where it has none
abbrev pub line_in : Option (List ℕ) → List ℕ
line_in none = []
line_in (some name) = name

-- it stands in the first r bytes; r is 4 where there is no room for three
pub record LineShown (code : List ℕ) (r : ℕ) (old new : List ℕ) : Type 0 where
  pub no_room : length old < 3 → r ≡ 4
  pub is : 3 ≤ length old → take r new ≡ line_in (idfm_product_to_short code)
  pub within : 3 ≤ length old → r ≤ length new
