-- Law. What a call gives that ends so.
use Rattle.std.specs.Prelude.{◌≡◌, refl, List, map, ℕ, length, replicate}
use Rattle.std.proofs.Common.{ap, ◌∙◌}
use Rattle.panel.specs.Outcome.{number_of, bytes_of}
use Rattle.panel.specs.Questions.{Lengths}
use Rattle.panel.specs.Calls.{Call, ends, out_of, work_of}
use Rattle.panel.specs.Given.{Given}
use Rattle.panel_output.specs.declared.Ending.{Ending}
use Rattle.panel_output.specs.Promises.Ending.{outcome_of, Finished}
use Rattle.panel_output.specs.Promises.Ends.{Ends, Zeros}

-- number, output and working buffers, each by itself
given : {L : Lengths} {old : List ℕ} {c : Call} {r : ℕ} {out : List ℕ} {work : List (List ℕ)}
    → r ≡ number_of (ends L old c) → out ≡ bytes_of (out_of c) (ends L old c)
    → work ≡ map (λ n. replicate n 0) (work_of c)
    → Given L old c r out work
given e f g = record { is = rw (e, f, g) refl }

-- its output finished, its working buffers cleared
pub finished : {L : Lengths} {old : List ℕ} {c : Call} {l : List ℕ} {e : Ending} {out : List ℕ} {r : ℕ}
    {work : List (List ℕ)} → Ends L old c l e → Finished l e out r → length l ≡ out_of c
    → work ≡ map (λ n. replicate n 0) (work_of c) → Given L old c r out work
finished {c} {l} {e} E F k w =
    given (F.number ∙ ap number_of E.is)
    (F.bytes ∙ ap (λ n. bytes_of n (outcome_of l e)) k ∙ ap (bytes_of (out_of c)) E.is) w

-- the same, by the buffers before
pub cleared : {L : Lengths} {old : List ℕ} {c : Call} {l : List ℕ} {e : Ending} {out : List ℕ} {r : ℕ}
    {before work : List (List ℕ)} → Ends L old c l e → Finished l e out r → length l ≡ out_of c
    → Zeros before work → map length before ≡ work_of c → Given L old c r out work
cleared E F k Z h = finished E F k (Z.is ∙ ap (map (λ n. replicate n 0)) h)
