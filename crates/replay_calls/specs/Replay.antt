-- Believe: 01, History. What a replay by code promises.
use Rattle.std.specs.Prelude.{ℕ, List}
use Rattle.panel.specs.Questions.{Lengths}
use Rattle.replay_script.specs.Script.{Lent}
use Rattle.replay_script.specs.Tells.{Replays}
use Rattle.replay_script.specs.Told.{ReplayTold, ReplayGained}

-- A REPLAY of the script s that returned a number and left `out`: number and every byte are the definitions'; its
-- output tells the history; and every replay of a script whose messages gained fields left the same
pub record ReplayHolds (L : Lengths) (R : Lent) (s : List ℕ) (number : ℕ) (out : List ℕ) : Type 0 where
  pub replays : Replays L R s number out
  pub told : ReplayTold L R s number out
  pub gained : {t : List ℕ} {n : ℕ} {other : List ℕ} → Replays L R t n other → ReplayGained L R s out t other
