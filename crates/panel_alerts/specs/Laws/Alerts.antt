-- Law. The questions of a message's alerts in their order, and what an accepted one gives.
use Rattle.std.specs.Prelude.{◌≡◌, Bool, true, false, cond, ◌&&◌, List, [], ℕ, ◌-◌, ◌≤◌, ◌<◌, eqb, leb, length, Option, Some}
use Rattle.std.proofs.Math.Path.{refl}
use Rattle.std.proofs.Common.{sym, ap, ◌∙◌, arith, leb-true, le-leb, eq-eqb, ne_eqb}
use Rattle.std.proofs.Math.Option.{Option as LogicOption, none, some}
use Rattle.std.proofs.lemmas.Bool.{lt-leb}
use Rattle.basics.specs.Lists.{all}
use Rattle.basics.specs.Laws.Booleans.{both_true}
use Rattle.formats.specs.Class.{token, in_class}
use Rattle.formats_judge.specs.Judged.{ok}
use Rattle.formats_write.specs.Laws.Adds.{wrote}
use Rattle.realtime.specs.Tree.{Tree, tree}
use Rattle.realtime.specs.Schema.{alert_message, feed}
use Rattle.realtime.specs.Judge.{Rules, rules_by, asked, texts_fine, numbers_fine}
use Rattle.realtime.specs.declared.Verdict.{Verdict}
use Rattle.alerts.specs.Alert.{alert_sheet}
use Rattle.alerts_feed.specs.Sheet.{sheet_in}
use Rattle.alerts_views.specs.Promises.Views.{KeptRead, few, kept_count, kept_in}
use Rattle.alerts_views.specs.Laws.Seven.{kept_seven}
use Rattle.alerts_sheet.specs.Promises.Written.{Short, Sheetable, WrittenSheet}
use Rattle.panel.specs.Outcome.{Outcome, refused, accepted, need, need_some}
use Rattle.panel.specs.Questions.{feed_ok}
use Rattle.panel.specs.FeedAlerts.{alert_tree_asks, feed_alerts_asks, sheet_by}
use Rattle.panel.specs.Calls as calls
use Rattle.panel.specs.Lengths.{lengths}
use Rattle.panel_output.specs.declared.Ending.{Ending}
use Rattle.panel_output.specs.declared.Ending.TheVariants.{Refused}
use Rattle.panel_output.specs.Laws.Ending.{written_as}
use Rattle.panel_output.specs.Promises.Ending.{outcome_of, ending_of}
use Rattle.panel_output.specs.Promises.Ends.{Ends}
use Rattle.panel_alerts.specs.Promises.Alerts.{alerts_number, number_by}

-- ---- the questions 3 to 5

-- by what is said of the texts, of the numbers and of the feed's id
verdict_refused : (x y b : Bool) (k : Outcome) (n : ℕ)
    → n ≡ number_by (cond x (cond y Verdict.Fine Verdict.Time) Verdict.Text) b → (n ≡ 0 → ⊥)
    → refused n ≡ need (b && x) 5 k
verdict_refused true true true k n e z = absurd (z e)
verdict_refused true true false k n e z = ap refused e
verdict_refused true false true k n e z = absurd (z e)
verdict_refused true false false k n e z = ap refused e
verdict_refused false y true k n e z = ap refused e
verdict_refused false y false k n e z = ap refused e

-- where both have the answer yes
record Yes (x b : Bool) : Type 0 where
  texts : x ≡ true
  named : b ≡ true

verdict_fine : (x y b : Bool) → 0 ≡ number_by (cond x (cond y Verdict.Fine Verdict.Time) Verdict.Text) b → Yes x b
verdict_fine true true true e = record { texts = refl; named = refl }
verdict_fine true true false e = absurd (omega arith)
verdict_fine true false true e = record { texts = refl; named = refl }
verdict_fine true false false e = absurd (omega arith)
verdict_fine false y true e = absurd (omega arith)
verdict_fine false y false e = absurd (omega arith)

-- the texts of a message, by the feed's id
abbrev texts_of : List ℕ → Rules
texts_of f = rules_by (63 - length f)

module _ (f : List ℕ) (k : Tree → Outcome) where
  abbrev chain : Bool → LogicOption Tree → Outcome
  chain short o =
      need short 3 (need_some o 4 (λ t. need (feed_ok f && texts_fine (texts_of f) alert_message t) 5 (k t)))

  chain_refused : (short : Bool) (o : LogicOption Tree) (n : ℕ)
      → n ≡ cond short (number_by (asked (texts_of f) alert_message o) (feed_ok f)) 3 → (n ≡ 0 → ⊥)
      → refused n ≡ chain short o
  chain_refused false o n e z = ap refused e
  chain_refused true none n e z = ap refused e
  chain_refused true (some t) n e z =
      verdict_refused (texts_fine (texts_of f) alert_message t) (numbers_fine (texts_of f) alert_message t) (feed_ok f)
      (k t)
      n e z

pub record Passed (f m : List ℕ) : Type 0 where
  pub short : leb (length m) 1048576 ≡ true
  pub message : Tree
  pub read : tree feed alert_message m ≡ some message
  pub texts : texts_fine (rules_by (63 - length f)) alert_message message ≡ true
  pub named : feed_ok f ≡ true

pub passed : (f m : List ℕ) → 0 ≡ alerts_number f m → Passed f m
passed f m e = go (leb (length m) 1048576) refl (tree feed alert_message m) refl e
  where
    go : (a : Bool) → leb (length m) 1048576 ≡ a → (o : LogicOption Tree) → tree feed alert_message m ≡ o
        → 0 ≡ cond a (number_by (asked (texts_of f) alert_message o) (feed_ok f)) 3 → Passed f m
    go false i o j e = absurd (omega (arith, e))
    go true i none j e = absurd (omega (arith, e))
    go true i (some t) j e =
        let y =
        verdict_fine (texts_fine (texts_of f) alert_message t) (numbers_fine (texts_of f) alert_message t) (feed_ok f) e
        in
        record { short = i; message = t; read = j; texts = y.texts; named = y.named }

-- ---- the number, by the tests that the code makes

pub too_long : (f m : List ℕ) → 1048576 < length m → 3 ≡ alerts_number f m
too_long f m h = rw (lt-leb (length m) 1048576 h) refl

pub asked_number : (f m : List ℕ) {v : Verdict} {b : Bool} {i n : ℕ} → length m ≤ 1048576 → i ≡ 63 - length f
    → v ≡ asked (rules_by i) alert_message (tree feed alert_message m) → b ≡ feed_ok f → n ≡ number_by v b
    → n ≡ alerts_number f m
asked_number f m h l i j e = e ∙ rw (le-leb (length m) 1048576 h, i, j, l) refl

-- ---- how the call ends

-- at most 256 are all that are kept, each with few ids
kept_fair : (l : List Tree) → kept_count l ≤ 256 → (all few l ≡ true) × (kept_count l ≡ length l)
kept_fair l h = go (all few l) refl (leb (length l) 256) h
  where
    go : (a : Bool) → all few l ≡ a → (b : Bool) → cond (a && b) (length l) 257 ≤ 256
        → (all few l ≡ true) × (cond (a && b) (length l) 257 ≡ length l)
    go true e true h = (e, refl)
    go true e false h = absurd (omega (arith, h))
    go false e b h = absurd (omega (arith, h))

-- what the writer asks
module _ {f m : List ℕ} (P : Passed f m) where
  pub short : Short f m
  short = record {
    feed = leb-true (length f) 16 (both_true (leb (length f) 16) (in_class token f) P.named).0;
    message = leb-true (length m) 1048576 P.short;
  }

  module _ {r : ℕ} (K : KeptRead m r) where
    counted : r ≡ kept_count (kept_in P.message)
    counted = K.of P.message P.read

    pub sheetable : r ≤ 256 → Sheetable m r
    sheetable h =
        let F = kept_fair (kept_in P.message) (omega (arith, counted)) in
        record {
          alerts = record { message = P.message; whole = P.read; fair = F.0 };
          counted = counted ∙ F.1;
        }

    seven : ok 7 alert_sheet (sheet_in f P.message) ≡ leb r 256
    seven = sym (kept_seven f P.message) ∙ ap (λ n. leb n 256) (sym counted)

-- what follows question 1
asked_on : (f m : List ℕ) (out : ℕ) → out ≡ 1048576
    → calls.ends lengths [] (calls.feed_alerts f m out)
    ≡ chain f (λ t. need (ok 7 alert_sheet (sheet_in f t)) 7 (need (leb (length (sheet_by f t)) 1048576) 8
    (accepted (sheet_by f t)))) (leb (length m) 1048576) (tree feed alert_message m)
unfolding feed_alerts_asks alert_tree_asks
asked_on f m out h = rw (eq-eqb out 1048576 h) refl

module _ {f m : List ℕ} {out : ℕ} {l : List ℕ} where
  pub sheet_unsized : (out ≡ 1048576 → ⊥) → Ends lengths [] (calls.feed_alerts f m out) l (Refused 1)
  unfolding feed_alerts_asks
  sheet_unsized h = record { is = rw (ne_eqb out 1048576 h) refl }

  module _ (h : out ≡ 1048576) where
    pub asked_no : {q : ℕ} → q ≡ alerts_number f m → (q ≡ 0 → ⊥)
        → Ends lengths [] (calls.feed_alerts f m out) l (Refused q)
    asked_no {q} e z = record {
      is = chain_refused f (λ t. need (ok 7 alert_sheet (sheet_in f t)) 7 (need (leb (length (sheet_by f t)) 1048576) 8
          (accepted (sheet_by f t)))) (leb (length m) 1048576) (tree feed alert_message m) q e z
          ∙ sym (asked_on f m out h);
    }

    module _ (P : Passed f m) {r : ℕ} (K : KeptRead m r) where
      pub too_many : 256 < r → Ends lengths [] (calls.feed_alerts f m out) l (Refused 7)
      too_many g = record {
        is = sym (asked_on f m out h
            ∙ rw (P.short, P.read, P.named, P.texts, seven P K, lt-leb r 256 g) refl);
      }

      pub sheet_ends : {b : List ℕ} {w : Option ℕ} {e : Ending} → r ≤ 256 → out ≡ length b
          → WrittenSheet f m b (Some 0) l w → e ≡ ending_of 8 w
          → Ends lengths [] (calls.feed_alerts f m out) l e
      sheet_ends {b} {w} {e} g k W i = record {
        is = ap (outcome_of l) i ∙ written_as 8 (wrote (W.of P.message P.read))
            ∙ ap (λ z. need (leb (length (sheet_by f P.message)) z) 8 (accepted (sheet_by f P.message)))
            (sym k ∙ h)
            ∙ sym (asked_on f m out h
            ∙ rw (P.short, P.read, P.named, P.texts, seven P K, le-leb r 256 g) refl);
      }
