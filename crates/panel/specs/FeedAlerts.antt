-- Believe: 02, C-11. A MESSAGE'S ALERTS AS A SHEET: a call without an overlay.
use Rattle.std.specs.Prelude.{ℕ, ◌-◌, ◌&&◌, List, [], eqb, leb, length}
use Rattle.formats.specs.Format.{write}
use Rattle.formats_judge.specs.Judged.{ok}
use Rattle.realtime.specs.Tree.{Tree, tree}
use Rattle.realtime.specs.Schema.{alert_message, feed}
use Rattle.realtime.specs.Judge.{rules_by, texts_fine}
use Rattle.alerts.specs.Alert.{alert_sheet}
use Rattle.alerts_feed.specs.Sheet.{sheet_in}
use Rattle.panel.specs.Outcome.{Asks, ask, ask_some, accept}
use Rattle.panel.specs.Questions.{Lengths, feed_ok}
use Rattle.panel.specs.Rule.{Rule, tells, if_read}

-- the bytes of a message's sheet
abbrev pub sheet_by : List ℕ → Tree → List ℕ
sheet_by f t = write alert_sheet (sheet_in f t)

-- an id has at most 64 bytes with the feed's id and the colon before it
unfoldable pub alert_tree_asks : Lengths → List ℕ → Tree → Asks
alert_tree_asks L f t =
    ask 5 (feed_ok f && texts_fine (rules_by (63 - length f)) alert_message t)
    (ask 7 (ok 7 alert_sheet (sheet_in f t)) (ask 8 (leb (length (sheet_by f t)) L.sheet) (accept (sheet_by f t))))

unfoldable pub feed_alerts_asks : List ℕ → List ℕ → ℕ → Lengths → Asks
feed_alerts_asks f m out L =
    ask 1 (eqb out L.sheet)
    (ask 3 (leb (length m) 1048576) (ask_some 4 (tree feed alert_message m) (alert_tree_asks L f)))

-- it leaves overlay and book; whatever the book holds, it tells every byte
abbrev pub feed_alerts_rule : List ℕ → List ℕ → ℕ → Rule
feed_alerts_rule f m out = record {
  out = out;
  work = [];
  asks = λ L old. feed_alerts_asks f m out L;
  does = tells (λ bk. if_read (tree feed alert_message m) [] (sheet_by f));
}
