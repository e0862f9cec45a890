-- Believe: 01, Questions before work, History. A MESSAGE.
use Rattle.std.specs.Prelude.{ℕ, ◌&&◌, List, leb, length}
use Rattle.realtime.specs.Tree.{Tree, tree}
use Rattle.realtime.specs.Schema.{feed_message, feed}
use Rattle.realtime.specs.Judge.{rules, texts_fine, numbers_fine}
use Rattle.decode.specs.Leaves.{leaves}
use Rattle.overlay.specs.State.{State}
use Rattle.overlay.specs.Change.{after_message}
use Rattle.panel.specs.Outcome.{Asks, ask, ask_some}
use Rattle.panel.specs.Questions.{Lengths, feed_ok, opened, changed}
use Rattle.panel.specs.Rule.{Rule, changes, Book, records_in, enter, if_read}

unfoldable pub tree_asks : Lengths → List ℕ → List ℕ → State → Tree → Asks
tree_asks L old f s t =
    ask 5 (feed_ok f && texts_fine rules feed_message t)
    (ask 6 (numbers_fine rules feed_message t) (changed L old (after_message f t s)))

unfoldable pub message_asks : List ℕ → List ℕ → ℕ → List ℕ → Lengths → List ℕ → Asks
message_asks f m new work L old =
    opened L old new L.overlay work L.work.message (λ s.
    ask 3 (leb (length m) 1048576) (ask_some 4 (tree feed feed_message m) (tree_asks L old f s)))

-- it empties the feed's trips unless DIFFERENTIAL; then each entity's record, in order, goes in at its keys, over old
-- ones, deleted entities passed over (`leaves`)
abbrev pub message_enters : List ℕ → Tree → Book → Book
message_enters f t bk =
    enter f (record {
      trips = leaves f t (records_in bk f).trips;
      vehicles = (records_in bk f).vehicles;
      alerts = (records_in bk f).alerts;
    }) bk

abbrev pub message_rule : List ℕ → List ℕ → ℕ → List ℕ → Rule
message_rule f m new work = record {
  out = new;
  work = work;
  asks = message_asks f m new work;
  does = changes (λ bk. if_read (tree feed feed_message m) bk (λ t. message_enters f t bk));
}
