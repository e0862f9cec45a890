-- Promise. How a call ends, by its output: refused with a number, or accepted with what stands up to a place.
use Rattle.std.specs.Prelude.{◌≡◌, List, ℕ, length, take, Option, Some, None}
use Rattle.overlay.specs.Image.{filled}
use Rattle.panel.specs.Outcome.{Outcome, refused, accepted, number_of, bytes_of}
use Rattle.panel_output.specs.declared.Ending.{Ending}
use Rattle.panel_output.specs.declared.Ending.TheVariants.{Refused, Written}

abbrev pub outcome_of : List ℕ → Ending → Outcome
outcome_of l (Refused n) = refused n
outcome_of l (Written p) = accepted (take p l)

-- what does not fit is question k's: of a state 7, of a card 8
abbrev pub ending_of : ℕ → Option ℕ → Ending
ending_of k (Some p) = Written p
ending_of k None = Refused k

abbrev pub put_ending : Option ℕ → Ending
put_ending w = ending_of 7 w

-- the output l with zeros from p on
pub record Cleared (l : List ℕ) (p : ℕ) (m : List ℕ) : Type 0 where
  pub is : m ≡ filled (length l) (take p l)

-- A CALL THAT ENDS SO with l in its output: its number is r, and every byte of its output is m's
pub record Finished (l : List ℕ) (e : Ending) (m : List ℕ) (r : ℕ) : Type 0 where
  pub number : r ≡ number_of (outcome_of l e)
  pub bytes : m ≡ bytes_of (length l) (outcome_of l e)
