-- Promise. The texts of an alert that stands at a place: where each is, its label, and what they say of a leg.
use Rattle.std.specs.Prelude.{◌≡◌, List, Bool, ℕ, ◌+◌, ◌≤◌, ◌<◌, length}
use Rattle.std.proofs.Math.Seq.{slice}
use Rattle.basics.specs.Options.{Maybe}
use Rattle.formats.specs.Class.{Class}
use Rattle.formats.specs.Format.{text, optional}
use Rattle.formats_read.specs.Promises.Here.{Here}
use Rattle.alerts.specs.Alert.{alert, Alert, header, description, cause, is_given, or_empty_text}
use Rattle.alerts.specs.Applies.{road_blob}
use Rattle.alerts.specs.Label.{label}
use Rattle.alerts.specs.Promises.Reduced.{road}

-- an optional text that stands at p: its bytes from a up to e, and whether there is one
pub record Shown (s : List ℕ) (p a e : ℕ) : Type 0 where
  pub is : {l : ℕ} {c : Class} {v : Maybe (List ℕ)} {q : ℕ} → Here (optional (text l c)) s p q v
      → slice a e s ≡ or_empty_text v
  pub forward : a ≤ e
  pub within : e ≤ length s

pub record Given (s : List ℕ) (p : ℕ) (r : Bool) : Type 0 where
  pub is : {l : ℕ} {c : Class} {v : Maybe (List ℕ)} {q : ℕ} → Here (optional (text l c)) s p q v → r ≡ is_given v

pub record Labelled (s : List ℕ) (p a e : ℕ) : Type 0 where
  pub is : {v : Alert} {q : ℕ} → Here alert s p q v → slice a e s ≡ label v
  pub forward : a ≤ e
  pub within : e ≤ length s

-- how much the texts take: two that the tests join with a third, and a space
abbrev pub taken : Alert → ℕ → ℕ
taken v n = length (or_empty_text (header v)) + length (or_empty_text (description v)) + n + 1

-- the answer, from a buffer that has room and keeps its length
pub record Road (s : List ℕ) (p : ℕ) (r : Bool) (old new : List ℕ) : Type 0 where
  pub kept : length new ≡ length old
  pub is : {v : Alert} {q : ℕ} → Here alert s p q v → taken v (length (or_empty_text (cause v))) < length old
      → r ≡ road (road_blob v)
