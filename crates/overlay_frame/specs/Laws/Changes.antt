-- Law. A changed state, where question 7 is answered by yes, and where by no.
use Rattle.std.specs.Prelude.{◌≡◌, refl, true, false, List, ℕ, Option, None}
use Rattle.std.proofs.Common.{sym, ◌∙◌}
use Rattle.basics.specs.Laws.Booleans.{false_true}
use Rattle.formats.specs.Format.{write}
use Rattle.formats_judge.specs.Judged.{ok}
use Rattle.formats_write.specs.Promises.Adds.{Wrote}
use Rattle.overlay.specs.State.{State, overlay}
use Rattle.overlay_frame.specs.Promises.Changes.{Changes}

pub within_seven : {l m : List ℕ} {q : Option ℕ} (s : State) → ok 7 overlay s ≡ true → Wrote l m q (write overlay s)
    → Changes l m q s
within_seven s h w = record { no = λ e. false_true (sym e ∙ h); yes = λ e. w }

pub over_seven : {l m : List ℕ} (s : State) → ok 7 overlay s ≡ false → Changes l m None s
over_seven s h = record { no = λ e. refl; yes = λ e. false_true (sym h ∙ e) }
