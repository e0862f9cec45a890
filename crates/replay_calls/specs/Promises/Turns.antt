-- Promise. A script's calls, run one after the other: what the turns so far have done, and how they end.
use Rattle.std.specs.Prelude.{◌≡◌, true, List, ℕ, ◌≤◌, length, Option, Some}
use Rattle.std.proofs.Math.Option.{none}
use Rattle.basics.specs.Lists.{all}
use Rattle.formats.specs.Format.{Value}
use Rattle.formats_write.specs.Promises.Adds.{Adds}
use Rattle.decode.specs.Sizes.{most_old}
use Rattle.panel.specs.Questions.{Lengths}
use Rattle.panel.specs.Calls.{fresh_overlay}
use Rattle.panel.specs.Demand3.{overlay_left}
use Rattle.panel_output.specs.Promises.Ending.{ending_of, Finished}
use Rattle.panel_output.specs.declared.Ending.{Ending}
use Rattle.replay_script.specs.Script.{script, calls_of, Lent, lends, calls_in}
use Rattle.replay_script.specs.Tells.{tells, Replays}
use Rattle.replay_script.specs.Promises.Asked.{Stand}

-- the calls us were run from a fresh overlay on, into the output `out`, of which `next` came
pub record Done (L : Lengths) (R : Lent) (us : Value script) (out next : List ℕ) (p : ℕ) (left : List ℕ) : Type 0 where
  pub lent : all (lends R) (calls_of L us) ≡ true
  pub told : Adds out (Some 0) next (Some p) (tells L (fresh_overlay L) (calls_of L us))
  pub after : left ≡ overlay_left L (fresh_overlay L) (calls_of L us)

-- s is no script for what is lent
pub record NoScript (L : Lengths) (R : Lent) (s : List ℕ) : Type 0 where
  pub is : calls_in L R s ≡ none

-- two overlays with room for n bytes, of `lent` bytes and more
pub record Overlays (n lent : ℕ) (a b : List ℕ) : Type 0 where
  pub first : lent ≤ length a
  pub second : lent ≤ length b
  pub room : n ≤ lent
  pub most : n ≤ most_old

-- the turns of n calls, of which the first stands at p, with l in the output then
pub record TurnsEnd (L : Lengths) (R : Lent) (s : List ℕ) (n p : ℕ) (l : List ℕ) (place : Option ℕ) : Type 0 where
  pub of : Stand s n p → {m : List ℕ} {r : ℕ} → Finished l (ending_of 1 place) m r → Replays L R s r m

-- a script's run, with l in the output then
pub record ScriptEnds (L : Lengths) (R : Lent) (s l : List ℕ) (e : Ending) : Type 0 where
  pub of : {m : List ℕ} {r : ℕ} → Finished l e m r → Replays L R s r m
