-- Law. The supplier adds fields (document 01, "History"): a list of calls in which messages gain fields gives the
-- same.
use Rattle.std.specs.Prelude.{◌≡◌, refl, Bool, true, false, cond, List, [], ◌∷◌, map, ℕ, ◌≤◌, eqb, leb, length, replicate}
use Rattle.std.proofs.Common.{sym, ap₂, ◌∙◌, arith, le-leb}
use Rattle.std.proofs.Math.Option.{Option, none, some}
use Rattle.realtime.specs.Tree.{tree}
use Rattle.realtime.specs.Schema.{feed_message, alert_message, feed}
use Rattle.realtime.specs.Gains.{Gains}
use Rattle.realtime.proofs.Laws.Gains.{gains_same_tree}
use Rattle.overlay.specs.State.{State}
use Rattle.overlay.specs.Image.{state_of}
use Rattle.panel.specs.Outcome.{Outcome, need, need_some, number_of, bytes_of}
use Rattle.panel.specs.Questions.{Lengths, lengths_ok}
use Rattle.panel.specs.Message.{message_asks}
use Rattle.panel.specs.FeedAlerts.{feed_alerts_asks}
use Rattle.panel.specs.Promises.Ends.{tree_outcome, message_of, alert_tree_outcome, feed_alerts_of}
use Rattle.panel.specs.Calls.{Call, gives, writes, overlay_after, run, numbers_given}
use Rattle.panel.specs.Gained.{Alike, equal, gained, gained_alerts, AlikeAll}

-- a call that the third question doesn't refuse gives the same with another yes to it
third : (a : Bool) (o : Option State) (b : Bool) (k : State → Outcome)
    → number_of (need a 1 (need_some o 2 (λ s. need b 3 (k s)))) ≡ 0
    → need a 1 (need_some o 2 (λ s. need b 3 (k s))) ≡ need a 1 (need_some o 2 k)
third false o b k e = refl
third true none b k e = refl
third true (some s) true k e = refl
third true (some s) false k e = absurd (omega (arith, e))

message_gained : (L : Lengths) (old f m m' : List ℕ) (new : ℕ) (work : List ℕ) → Gains feed feed_message m m'
    → length m' ≤ 1048576
    → number_of (message_of L old f m new work) ≡ 0 → message_of L old f m new work ≡ message_of L old f m' new work
unfolding message_asks
message_gained L old f m m' new work g l e =
    rw (le-leb (length m') 1048576 l, gains_same_tree g)
    (third (lengths_ok L old new L.overlay work L.work.message) (state_of old) (leb (length m) 1048576)
    (λ s. need_some (tree feed feed_message m) 4 (tree_outcome L old f s)) e)

-- a message of alerts that the third question doesn't refuse
third_alerts : (a b : Bool) (o : Outcome) → number_of (need a 1 (need b 3 o)) ≡ 0 → need a 1 (need b 3 o) ≡ need a 1 o
third_alerts false b o e = refl
third_alerts true true o e = refl
third_alerts true false o e = absurd (omega (arith, e))

-- A SUPPLIER'S NEWER MESSAGE GIVES THE SAME SHEET
pub alerts_gained : (L : Lengths) (f m m' : List ℕ) (out : ℕ) → Gains feed alert_message m m' → length m' ≤ 1048576
    → number_of (feed_alerts_of L f m out) ≡ 0 → feed_alerts_of L f m out ≡ feed_alerts_of L f m' out
unfolding feed_alerts_asks
alerts_gained L f m m' out g l e =
    rw (le-leb (length m') 1048576 l, gains_same_tree g)
    (third_alerts (eqb out L.sheet) (leb (length m) 1048576)
    (need_some (tree feed alert_message m) 4 (alert_tree_outcome L f)) e)

alike_ends : (L : Lengths) (old : List ℕ) {c d : Call} {n : ℕ} → Alike c n d → n ≡ (gives L old c).number
    → gives L old c ≡ gives L old d
alike_ends L old equal e = refl
alike_ends L old (gained {f} {m} {m'} {new} {work} g z l) e =
    let q = message_gained L old f m m' new work g l (sym e ∙ z) in
    λ i. record { number = number_of (q i); out = bytes_of new (q i); work = map (λ n. replicate n 0) work }
alike_ends L old (gained_alerts {f} {m} {m'} {out} g z l) e =
    let q = alerts_gained L f m m' out g l (sym e ∙ z) in
    λ i. record { number = number_of (q i); out = bytes_of out (q i); work = [] }

alike_writes : {c d : Call} {n : ℕ} → Alike c n d → writes c ≡ writes d
alike_writes equal = refl
alike_writes (gained g z l) = refl
alike_writes (gained_alerts g z l) = refl

-- THE SUPPLIER ADDS FIELDS: every number, every output byte and every working word is the same in both runs
pub history_gains : (L : Lengths) (old : List ℕ) (cs ds : List Call) → AlikeAll cs (numbers_given (run L old cs)) ds
    → run L old cs ≡ run L old ds
unfolding run
history_gains L old [] [] h = refl
history_gains L old [] (d ∷ ds) h = absurd h
history_gains L old (c ∷ cs) [] h = absurd h
history_gains L old (c ∷ cs) (d ∷ ds) h =
    let q = alike_ends L old h.0 refl in
    let w = alike_writes h.0 in
    ap₂ ◌∷◌ q
    (history_gains L (overlay_after old c (gives L old c)) cs ds h.1
    ∙ λ i. run L (cond (w i) (cond (eqb (q i).number 0) (q i).out old) old) ds)
