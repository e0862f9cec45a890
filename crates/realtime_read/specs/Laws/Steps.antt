-- Law. A step over a message says what its tree says.
use Rattle.std.specs.Prelude.{ℕ, ◌≡◌, List}
use Rattle.std.proofs.Common.{subst}
use Rattle.realtime.specs.Tree.{Schema}
use Rattle.realtime_read.specs.declared.Step.{Step}
use Rattle.realtime_read.specs.Promises.Steps.{Stepped}

-- a step, by what it was taken apart to
pub step_is : {σ : Schema} {t : ℕ} {s : List ℕ} {at : ℕ} {r q : Step} → Stepped σ t s at r → r ≡ q → Stepped σ t s at q
step_is {σ} {t} {s} {at} S e = subst (λ k. Stepped σ t s at k) e S
