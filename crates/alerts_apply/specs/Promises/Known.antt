-- Promise. What is known of the texts of several alerts, four words for each: its place, and what Words.antt has.
use Rattle.std.specs.Prelude.{◌≡◌, List, Bool, ℕ, ◌+◌, ◌*◌, length, get_or}
use Rattle.formats_read.specs.Promises.Here.{Here}
use Rattle.alerts.specs.Alert.{alert, Alert}
use Rattle.alerts.specs.Text.{trim}
use Rattle.alerts.specs.Applies.{alert_applies_to_leg_with_mode}
use Rattle.alerts_apply.specs.declared.hits.Hit.{Hit}
use Rattle.alerts_apply.specs.Promises.Words.{Says}
use Rattle.alerts_apply.specs.Promises.Hits.{Room, decided_of}

-- what the four words from i on say, and that all of them say what is so
abbrev pub SaysAt : ℕ → List ℕ → List ℕ → ℕ → Type 0
SaysAt n s w i = Says n s (get_or w i 0) (get_or w (i + 1) 0) (get_or w (i + 2) 0) (get_or w (i + 3) 0)

pub record Knows (n : ℕ) (s w : List ℕ) : Type 0 where
  pub each : (k : ℕ) → SaysAt n s w (4 * k)

-- the words from i on are those of the alert at p
pub record Begun (i p : ℕ) (w w' : List ℕ) : Type 0 where
  pub words : length w' ≡ length w
  pub place : get_or w' i 0 ≡ p
  pub knows : {n : ℕ} {s : List ℕ} → Knows n s w → (k : ℕ) → i ≡ 4 * k → Knows n s w'

pub record DecidedKnown (s : List ℕ) (p : ℕ) (short mode : List ℕ) (h : Hit) (r : Bool) (old new w w' : List ℕ)
    : Type 0 where
  pub kept : length new ≡ length old
  pub words : length w' ≡ length w
  pub knows : Knows (length old) s w → Knows (length old) s w'
  pub is : Knows (length old) s w → {a : Alert} {q : ℕ} → Here alert s p q a → Room a short (length old)
      → r ≡ decided_of h a short mode

-- the answer is the rules', whatever of the alerts is known; and what is known afterwards is so
pub record AppliedKnown (trip route short from to mode s : List ℕ) (p : ℕ) (r : Bool) (old new w w' : List ℕ)
    : Type 0 where
  pub kept : length new ≡ length old
  pub words : length w' ≡ length w
  pub knows : Knows (length old) s w → Knows (length old) s w'
  pub is : Knows (length old) s w → {a : Alert} {q : ℕ} → Here alert s p q a → Room a (trim short) (length old)
      → r ≡ alert_applies_to_leg_with_mode a trip route short from to mode
