-- Law. DEMAND 3, of the exported calls: for every list of them.
use Rattle.std.specs.Prelude.{◌≡◌, refl, List, [], ◌∷◌, ℕ}
use Rattle.std.proofs.Common.{sym, ap, ap₂, ◌∙◌}
use Rattle.panel.specs.Calls.{Call, fresh, feed_alerts, Gave, gives, overlay_after, fresh_overlay, run}
use Rattle.panel.specs.Calls.{numbers_given}
use Rattle.panel.specs.Rule.{no_book}
use Rattle.panel.specs.Book.{History}
use Rattle.panel.specs.Gained.{AlikeAll}
use Rattle.panel.specs.Demand3.{Demand3}
use Rattle.panel.proofs.Laws.Gained.{history_gains}
use Rattle.panel.proofs.Laws.History.{history}
use Rattle.panel.specs.Lengths.{lengths}
use Rattle.panel.specs.Given.{Given}
use Rattle.panel.proofs.Laws.Lengths.{demand_3_compiled}
use Rattle.panel.specs.Made.{Made, Holds}

-- calls that meet their promises give what a run of the definitions gives
pub made_run : (old : List ℕ) (cs : List Call) (gs : List Gave) → Made old cs gs → gs ≡ run lengths old cs
unfolding run
made_run old [] [] h = refl
made_run old [] (g ∷ gs) h = absurd h
made_run old (c ∷ cs) [] h = absurd h
made_run old (c ∷ cs) (g ∷ gs) h =
    let e : g ≡ gives lengths old c = h.0.is in
    ap₂ ◌∷◌ e
    (made_run (overlay_after old c g) cs gs h.1 ∙ ap (λ g. run lengths (overlay_after old c g) cs) e)

-- and there are such calls, of every list: what the definitions give
pub run_made : (old : List ℕ) (cs : List Call) → Made old cs (run lengths old cs)
unfolding run
run_made old [] = tt
run_made old (c ∷ cs) =
    (record { is = refl }, run_made (overlay_after old c (gives lengths old c)) cs)

-- a fresh call's promise is over no overlay, and so over any
pub fresh_over : (old : List ℕ) {n number : ℕ} {out : List ℕ} {work : List (List ℕ)}
    → Given lengths [] (fresh n) number out work → Given lengths old (fresh n) number out work
fresh_over old g = record { is = g.is }

-- and so is that of a message's alerts
pub feed_alerts_over : (old : List ℕ) {f m : List ℕ} {n number : ℕ} {out : List ℕ} {work : List (List ℕ)}
    → Given lengths [] (feed_alerts f m n) number out work → Given lengths old (feed_alerts f m n) number out work
feed_alerts_over old g = record { is = g.is }

-- the two halves at the published lengths
pub history_published : (cs : List Call) → History lengths (fresh_overlay lengths) no_book cs
history_published cs = history lengths cs

pub history_gains_published : (cs ds : List Call)
    → AlikeAll cs (numbers_given (run lengths (fresh_overlay lengths) cs)) ds
    → run lengths (fresh_overlay lengths) cs ≡ run lengths (fresh_overlay lengths) ds
history_gains_published cs ds = history_gains lengths (fresh_overlay lengths) cs ds

-- DEMAND 3
pub demand_3_made : (cs : List Call) (gs : List Gave) → Made (fresh_overlay lengths) cs gs → Holds cs gs
demand_3_made cs gs h =
    let e = made_run (fresh_overlay lengths) cs gs h in
    let D : Demand3 lengths (fresh_overlay lengths) no_book cs = demand_3_compiled cs in
    record {
      history = rw e D.history;
      gains = λ ds hs a m. e ∙ D.gains ds (rw e at a) ∙ sym (made_run (fresh_overlay lengths) ds hs m);
    }
