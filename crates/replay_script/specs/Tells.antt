-- Believe: 01, History. What a replay writes: of each call, run one after the other, its number and what stands of it.
use Rattle.std.specs.Prelude.{ℕ, ◌≡◌, cond, List, [], ◌∷◌, ◌++◌}
use Rattle.panel.specs.Outcome.{Outcome, accepted, need_some, number_of, bytes_of}
use Rattle.panel.specs.Questions.{Lengths}
use Rattle.panel.specs.Calls.{Call, Gave, writes, fresh_overlay, run}
use Rattle.replay_script.specs.Script.{Lent, calls_in}

abbrev pub telling : Call → Gave → List ℕ
telling c g = g.number ∷ cond (writes c) [] g.out

unfoldable pub tell_all : List Call → List Gave → List ℕ
tell_all [] gs = []
tell_all (c ∷ cs) [] = []
tell_all (c ∷ cs) (g ∷ gs) = telling c g ++ tell_all cs gs

-- the calls cs from the overlay `old` on
unfoldable pub tells : Lengths → List ℕ → List Call → List ℕ
tells L old cs = tell_all cs (run L old cs)

-- a replay of a script from a fresh overlay on; refused by 1 where it is no script for the buffers that are lent
unfoldable pub replay_of : Lengths → Lent → List ℕ → Outcome
replay_of L R s = need_some (calls_in L R s) 1 (λ cs. accepted (tells L (fresh_overlay L) cs))

-- A REPLAY: its number, and every byte of its output
pub record Replays (L : Lengths) (R : Lent) (s : List ℕ) (number : ℕ) (out : List ℕ) : Type 0 where
  pub says : number ≡ number_of (replay_of L R s)
  pub writes : out ≡ bytes_of R.output (replay_of L R s)
