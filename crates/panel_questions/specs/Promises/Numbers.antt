-- Promise. The number of the first question among 3 to 7 that a sheet and its feed id fail by themselves, or 0.
use Rattle.std.specs.Prelude.{◌≡◌, Bool, true, cond, List, ℕ, leb, eqb, ℤ, pos, ◌-ℤ◌, length}
use Rattle.std.proofs.Math.Option.{Option, none, some}
use Rattle.formats.specs.Format.{Format, Value}
use Rattle.formats.specs.Number.{zag}
use Rattle.formats_judge.specs.Judged.{ok, answer, verdict}
use Rattle.decode.specs.Trip.{instant}
use Rattle.alerts.specs.Alert.{alert_sheet}
use Rattle.overlay.specs.State.{vehicle_sheet}
use Rattle.panel.specs.Questions.{whole, feed_ok}
use Rattle.panel.specs.VehicleSheet.{vehicles_in}

-- question 4, and what is asked of a value that has the form
abbrev pub formed : {A : Type 0} → Option A → (A → ℕ) → ℕ
formed none k = 4
formed (some v) k = k v

-- question 3, and what is asked of an input that is short enough
abbrev pub short : List ℕ → ℕ → ℕ
short sheet n = cond (leb (length sheet) 1048576) n 3

-- an alert sheet: its verdict, after the feed id's
unfoldable pub alert_number : List ℕ → List ℕ → ℕ
alert_number f sheet = short sheet (formed (whole alert_sheet sheet) (λ v. cond (feed_ok f) (verdict alert_sheet v) 5))

-- question 6 puts the clock's time beside a vehicle sheet's verdict; what is too many is judged after the call
abbrev pub timed : ℕ → Bool → ℕ
timed n clock = cond (eqb n 5) 5 (cond (eqb n 6) 6 (answer 6 clock))

-- a vehicle sheet, with the answer to question 6 of its clock
unfoldable pub vehicle_number : List ℕ → List ℕ → Bool → ℕ
vehicle_number f sheet clock =
    short sheet (formed (vehicles_in sheet) (λ v. cond (feed_ok f) (timed (verdict vehicle_sheet v) clock) 5))

-- the clock: question 6 of it, and the code of the time 900 seconds before it
pub record ClockIs (clock : ℤ) (fine : Bool) (limit : ℕ) : Type 0 where
  pub six : fine ≡ ok 6 instant clock
  pub limited : fine ≡ true → zag limit ≡ clock -ℤ pos 900

-- a value of g that ends at the last byte of s, and its verdict
pub record Whole (g : Format) (s : List ℕ) (n : ℕ) : Type 0 where
  pub value : Value g
  pub is : whole g s ≡ some value
  pub judged : n ≡ verdict g value
