-- Promise. A text as it is searched, written into a buffer: in capitals, or with accents folded too; and the answer
-- of the text test.
use Rattle.std.specs.Prelude.{◌≡◌, List, ◌∷◌, ◌++◌, Bool, cond, ◌||◌, ℕ, ◌+◌, ◌≤◌, ◌<◌, length, take, drop}
use Rattle.std.proofs.Math.Option.{Option, none, some}
use Rattle.basics.specs.Lists.{is_empty}
use Rattle.alerts.specs.Text.{text, upper}
use Rattle.alerts.specs.Applies.{fold_alert_blob, commercial_lines_in_text}
use Rattle.alerts.specs.Promises.Reduced.{text_ok, road}

abbrev pub letter_of : Option ℕ → ℕ
letter_of none = 0
letter_of (some l) = l

abbrev pub searched : Bool → List ℕ → List ℕ
searched fold s = cond fold (fold_alert_blob s) (upper s)

-- what stands from i on is searched as one byte and what stands from the next place on
pub record Stepped (s : List ℕ) (i : ℕ) (fold : Bool) (b next : ℕ) : Type 0 where
  pub past : i < next
  pub within : next ≤ length s
  pub made : searched fold (drop i s) ≡ b ∷ searched fold (drop next s)

-- the buffer up to r is what it was up to `at`, and the text as it is searched
pub record Written (old new : List ℕ) (at : ℕ) (s : List ℕ) (fold : Bool) (r : ℕ) : Type 0 where
  pub kept : length new ≡ length old
  pub within : r ≤ at + length s
  pub made : take r new ≡ take at old ++ searched fold s

-- the answers of the text test, for a trimmed short name, and of the road test
abbrev pub fits_of : List ℕ → List ℕ → List ℕ → Bool
fits_of h d short = let b = fold_alert_blob (h ++ text " " ++ d) in
    is_empty short || text_ok b (commercial_lines_in_text b) (upper short)

abbrev pub road_of : List ℕ → List ℕ → List ℕ → Bool
road_of h d c = road (upper (h ++ text " " ++ d ++ text " " ++ c))

-- the answer, from a buffer that keeps its length
pub record Answered (old new : List ℕ) (r answer : Bool) : Type 0 where
  pub kept : length new ≡ length old
  pub is : r ≡ answer
