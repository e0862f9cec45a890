-- Law. A changed state as an outcome.
use Rattle.std.specs.Prelude.{◌≡◌, refl, Bool, true, false, ◌&&◌, List, ℕ, leb, length, Option}
use Rattle.std.proofs.Common.{sym, ap}
use Rattle.formats.specs.Format.{write}
use Rattle.formats_judge.specs.Judged.{ok}
use Rattle.overlay.specs.State.{State, overlay}
use Rattle.overlay.specs.Image.{room}
use Rattle.overlay_frame.specs.Promises.Changes.{Changes}
use Rattle.panel.specs.Outcome.{accepted, need}
use Rattle.panel.specs.Questions.{Lengths}
use Rattle.panel.specs.Promises.Ends.{changed_state}
use Rattle.panel_output.specs.Promises.Ending.{outcome_of, put_ending}
use Rattle.panel_output.specs.Laws.Ending.{written_outcome}

-- what is written, or not, is the outcome
pub changed_outcome : (L : Lengths) (old : List ℕ) {l m : List ℕ} {q : Option ℕ} (s : State) → length l ≡ L.overlay
    → Changes l m q s → outcome_of m (put_ending q) ≡ changed_state L old s
unfolding room
changed_outcome L old {l} {m} {q} s d C = go (ok 7 overlay s) refl
  where
    go : (b : Bool) → ok 7 overlay s ≡ b
        → outcome_of m (put_ending q)
        ≡ need (b && leb (length (write overlay s)) L.overlay) 7 (accepted (write overlay s))
    go true e = rw (sym d) (written_outcome (C.yes e))
    go false e = ap (λ q. outcome_of m (put_ending q)) (C.no e)
