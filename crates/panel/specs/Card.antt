-- Believe: 01, Questions before work, History. A CARD, finished by what the overlay holds.
use Rattle.std.specs.Prelude.{ℕ, ◌&&◌, List, [], leb, length}
use Rattle.formats.specs.Format.{Value, write}
use Rattle.formats_judge.specs.Judged.{ok}
use Rattle.overlay.specs.State.{State}
use Rattle.overlay.specs.Records.{shown}
use Rattle.journey.specs.Card.{card, card_of, card_value}
use Rattle.journey.specs.Enrich.{enrich_with_realtime}
use Rattle.panel.specs.Outcome.{Asks, ask, ask_some, accept}
use Rattle.panel.specs.Questions.{Lengths, whole, opened}
use Rattle.panel.specs.Rule.{Rule, tells, Book, if_read}

-- the finished card of an arriving one, by what the state shows
unfoldable pub finished : State → Value card → Value card
finished s v = card_value (enrich_with_realtime (shown s) (card_of v))

unfoldable pub arriving_asks : Lengths → State → Value card → Asks
arriving_asks L s v =
    ask 5 (ok 5 card v)
    (ask 6 (ok 6 card v)
    (ask 7 (ok 7 card v && ok 7 card (finished s v))
    (ask 8 (leb (length (write card (finished s v))) L.card) (accept (write card (finished s v))))))

unfoldable pub card_asks : List ℕ → ℕ → List ℕ → Lengths → List ℕ → Asks
card_asks bytes out work L old =
    opened L old out L.card work L.work.card (λ s.
    ask 3 (leb (length bytes) 65536) (ask_some 4 (whole card bytes) (arriving_asks L s)))

-- what look-up, times and status and the card's form give on the book
abbrev pub card_by : Book → Value card → List ℕ
card_by bk v = write card (card_value (enrich_with_realtime bk (card_of v)))

abbrev pub card_rule : List ℕ → ℕ → List ℕ → Rule
card_rule bytes out work = record {
  out = out;
  work = work;
  asks = card_asks bytes out work;
  does = tells (λ bk. if_read (whole card bytes) [] (card_by bk));
}
