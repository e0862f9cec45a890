-- Law. What a message's alerts gave is an alert sheet: cut at its end and sent in for the same feed, over any overlay,
-- questions 3 to 6 say yes to it, and it reads as the same alerts.
use Rattle.std.specs.Prelude.{ℕ, ◌-◌, ◌≤◌, ◌≡◌, refl, true, List, [], ◌∷◌, map, leb, length, take, drop, replicate}
use Rattle.std.proofs.Common.{sym, ap, subst, ◌∙◌, arith, le-leb, leb-true}
use Rattle.std.proofs.Math.Option.{Option, none, some}
use Rattle.std.proofs.Math.Seq.{take-append_seam, drop-append_seam}
use Rattle.basics.specs.Laws.Booleans.{both_true}
use Rattle.formats.specs.Format.{Value, write}
use Rattle.formats_judge.specs.Judged.{ok}
use Rattle.realtime.specs.Tree.{Tree, tree}
use Rattle.realtime.specs.Schema.{feed, alert_message}
use Rattle.realtime.specs.Judge.{rules_by, texts_fine}
use Rattle.alerts.specs.Alert.{alert_sheet as alert_form}
use Rattle.alerts_feed.specs.Sheet.{sheet_in}
use Rattle.overlay.specs.State.{State}
use Rattle.overlay.specs.Image.{filled, state_of}
use Rattle.overlay.proofs.Laws.Within.{fits_of}
use Rattle.panel.specs.Outcome.{bytes_of, ask, ask_some}
use Rattle.panel.specs.Questions.{Lengths, whole, feed_ok}
use Rattle.panel.specs.AlertSheet.{alerts_ask, alert_sheet_asks}
use Rattle.panel.specs.FeedAlerts.{sheet_by, alert_tree_asks, feed_alerts_asks}
use Rattle.panel.specs.Calls.{alert_sheet, feed_alerts, asks, gives}
use Rattle.panel.specs.Answers.{order, answer}
use Rattle.panel.proofs.Laws.Asks.{always, zero_accepted}
use Rattle.panel.proofs.Laws.RoundTrips.{alert_sheet_round_trips}
use Rattle.panel.proofs.Laws.SheetTexts.{sheet_judged}
use Rattle.panel.proofs.Laws.Sizes.{out_long}
use Rattle.panel.proofs.Laws.Table.{lawful}

-- the bytes b hold the sheet v, and then zeros; cut at its end it reads as v, and sent in for the feed f, over any
-- buffer, questions 3 to 6 of the call say yes
pub record SheetAgain (L : Lengths) (f b : List ℕ) (v : Value alert_form) : Type 0 where
  pub reads : whole alert_form (take (length (write alert_form v)) b) ≡ some v
  pub zeros : drop (length (write alert_form v)) b ≡ replicate (length b - length (write alert_form v)) 0
  pub yes : (old : List ℕ) (new : ℕ) (work : List ℕ)
      → map (answer (asks L old (alert_sheet f (take (length (write alert_form v)) b) new work))) (3 ∷ 4 ∷ 5 ∷ 6 ∷ [])
      ≡ replicate 4 true

-- questions 3 to 6 of a sheet that reads as v
sheet_yes : (L : Lengths) (f x : List ℕ) (v : Value alert_form) → length x ≤ 1048576 → whole alert_form x ≡ some v
    → feed_ok f ≡ true → ok 5 alert_form v ≡ true → (old : List ℕ) (new : ℕ) (work : List ℕ)
    → map (answer (asks L old (alert_sheet f x new work))) (3 ∷ 4 ∷ 5 ∷ 6 ∷ []) ≡ replicate 4 true
unfolding alert_sheet_asks alerts_ask
sheet_yes L f x v l four name five old new work = go (state_of old)
  where
    go : (o : Option State)
        → map (answer (ask_some 2 o (λ s. ask 3 (leb (length x) 1048576)
        (ask_some 4 (whole alert_form x) (alerts_ask L old f s))))) (3 ∷ 4 ∷ 5 ∷ 6 ∷ []) ≡ replicate 4 true
    go none = refl
    go (some s) = rw (four, le-leb (length x) 1048576 l, name, five) refl

-- the sheet v in a buffer of n bytes
filled_again : (L : Lengths) (f : List ℕ) (n : ℕ) (v : Value alert_form) → length (filled n (write alert_form v)) ≡ n
    → length (write alert_form v) ≤ 1048576 → whole alert_form (write alert_form v) ≡ some v → feed_ok f ≡ true
    → ok 5 alert_form v ≡ true → SheetAgain L f (filled n (write alert_form v)) v
unfolding filled
filled_again L f n v long l four name five =
    let x = write alert_form v in
    let front : take (length x) (filled n x) ≡ x = take-append_seam x (replicate (n - length x) 0) in
    let read : whole alert_form (take (length x) (filled n x)) ≡ some v = ap (whole alert_form) front ∙ four in
    record {
      reads = read;
      zeros = drop-append_seam x (replicate (n - length x) 0) ∙ ap (λ m. replicate (m - length x) 0) (sym long);
      yes = sheet_yes L f (take (length x) (filled n x)) v (omega (arith, ap length front)) read name five;
    }

-- WHAT A MESSAGE'S ALERTS GAVE, as an alert sheet
pub sheet_again : (L : Lengths) → L.sheet ≤ 1048576 → (old f m : List ℕ) (out : ℕ) (t : Tree)
    → tree feed alert_message m ≡ some t → (gives L old (feed_alerts f m out)).number ≡ 0
    → SheetAgain L f (gives L old (feed_alerts f m out)).out (sheet_in f t)
unfolding feed_alerts_asks alert_tree_asks
sheet_again L top old f m out t is e =
    let c = feed_alerts f m out in
    let a = zero_accepted order (asks L old c) refl ((lawful c).ordered L old) e in
    let q = ap (bytes_of out) a.is in
    rw q
    (always (λ x. length (filled out x) ≡ out → SheetAgain L f (filled out x) (sheet_in f t)) (asks L old c)
    (λ one three u read five seven eight long.
    let z : u ≡ t = cc in
    let y = both_true (feed_ok f) (texts_fine (rules_by (63 - length f)) alert_message u) five in
    let j = sheet_judged f y.0 m u read y.1 in
    let w = alert_sheet_round_trips.written_reads_back (sheet_in f u) (fits_of alert_form refl (sheet_in f u) j seven)
    in
    let short = leb-true (length (sheet_by f u)) L.sheet eight in
    subst (SheetAgain L f (filled out (sheet_by f u))) (ap (sheet_in f) z)
    (filled_again L f out (sheet_in f u) long (omega (arith, short)) w y.0 j.five))
    a.is (ap length (sym q) ∙ out_long L old c))
