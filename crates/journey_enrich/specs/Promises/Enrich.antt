-- Promise. A card's headers and the whole card, written anew.
use Rattle.std.specs.Prelude.{◌≡◌, ℕ, Option}
use mathlib.Core.List.{List, foldl}
use Rattle.formats.specs.Readers.{many_w}
use Rattle.formats.specs.Class.{utf8}
use Rattle.formats.specs.Format.{Value, list, text, write}
use Rattle.formats_read.specs.Promises.Here.{Here}
use Rattle.formats_write.specs.Promises.Adds.{Adds}
use Rattle.formats_write.specs.Promises.Given.{text_w}
use Rattle.overlay.specs.State.{State}
use Rattle.overlay.specs.Records.{shown}
use Rattle.overlay.proofs.Laws.Within.{Judged56}
use Rattle.journey.specs.Card.{card, card_of, card_value}
use Rattle.journey.specs.Enrich.{keys, transits, headers_of, enrich_with_realtime}
use Rattle.journey_labels.specs.Promises.Labels.{labels, SoundLabels}
use Rattle.journey_card.specs.declared.Survey as code
use Rattle.journey_card.specs.Promises.Survey.{nothing, look, gathered_of}
use Rattle.journey_finish.specs.Promises.Finish.{StateIn}

-- the texts of the first i of n labels, one after another
pub record HeadersUpTo (i : ℕ) (b f t : List ℕ) (n : ℕ) (l : List ℕ) (w : Option ℕ) (m : List ℕ)
    (r : Option ℕ) : Type 0 where
  pub adds : SoundLabels b f t n → Adds l w m r (many_w text_w (keys (labels b f t i)))

-- the list of them
pub record HeadersPut (b f t : List ℕ) (n : ℕ) (l : List ℕ) (w : Option ℕ) (m : List ℕ) (r : Option ℕ) : Type 0 where
  pub adds : SoundLabels b f t n → Adds l w m r (write (list 1024 (text 512 utf8)) (keys (labels b f t n)))

-- THE CARD at p, finished over the state that stands in b: where g is what its legs give, and the labels that were
-- noted are its headers
pub record Enriches (g : code.Survey) (n : ℕ) (s : List ℕ) (p : ℕ) (b f t l : List ℕ) (w : Option ℕ) (m : List ℕ)
    (r : Option ℕ)
    : Type 0 where
  pub adds : {q : ℕ} {v : Value card} → Here card s p q v → Judged56 card v → {st : State} → StateIn b st
      → gathered_of g ≡ foldl (look (shown st)) nothing (card_of v).legs → SoundLabels b f t n
      → keys (labels b f t n) ≡ headers_of (shown st) (transits (card_of v).legs)
      → Adds l w m r (write card (card_value (enrich_with_realtime (shown st) (card_of v))))
