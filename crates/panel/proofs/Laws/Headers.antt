-- Law. THE HEADERS of the card that a card call finishes over a state: strictly ascending by bytes, and exactly the
-- nonempty labels of the alerts that apply to its legs.
use Rattle.std.specs.Prelude.{◌≡◌, true, List, map, ℕ}
use Rattle.formats.specs.Format.{Value}
use Rattle.maps.specs.Map.{ascending}
use Rattle.maps.specs.Order.{texts}
use Rattle.basics.specs.Lists.{any}
use Rattle.basics.specs.Texts.{same}
use Rattle.overlay.specs.State.{State}
use Rattle.overlay.specs.Records.{shown}
use Rattle.journey.specs.Card.{card, card_of}
use Rattle.journey.specs.Enrich.{transits}
use Rattle.journey.proofs.Laws.Headers.{entry}
use Rattle.journey.proofs.Laws.Labels.{labelled, card_headers_ascend, card_headers_exact}
use Rattle.panel.specs.Card.{finished}

module _ (s : State) (v : Value card) where
  pub finished_headers_ascend : ascending texts (map entry (card_of (finished s v)).headers) ≡ true
  unfolding finished
  finished_headers_ascend = card_headers_ascend (shown s) (card_of v)

  pub finished_headers_exact : (x : List ℕ)
      → any (same x) (card_of (finished s v)).headers ≡ labelled (shown s) (transits (card_of v).legs) x
  unfolding finished
  finished_headers_exact x = card_headers_exact (shown s) (card_of v) x
