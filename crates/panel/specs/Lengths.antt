-- Believe: 01, Questions before work; 02, C-11. The lengths that docs/ publishes, with the overlay's as a parameter.
use Rattle.std.specs.Prelude.{ℕ, List, [], ◌∷◌, ◌++◌}
use Rattle.overlay.specs.Buffer.{published}
use Rattle.panel.specs.Questions.{Working, Lengths}

-- a card call's working buffers: candidates and marks, places of trips, what is known of alerts
abbrev pub card_work : List ℕ
card_work = 256 ∷ 256 ∷ 8208 ∷ 4096 ∷ []

-- THE TABLE of working buffers; a message's: keys, marks and order of its records
abbrev pub working : Working
working = record {
  message = 280713 ∷ 6147 ∷ 2049 ∷ [];
  alert_sheet = [];
  vehicle_sheet = [];
  card = card_work;
}

-- those of the calls over an overlay of n bytes
abbrev pub sized : ℕ → Lengths
sized n = record {
  overlay = n;
  card = 65536;
  sheet = 1048576;
  work = working;
}

-- THE PUBLISHED LENGTHS
abbrev pub lengths : Lengths
lengths = sized published

-- in one row, as a host asks for them: the overlay's, a card's, a report's, those of a message's working buffers and of
-- a card's, a sheet's
abbrev pub published_lengths : List ℕ
published_lengths =
    lengths.overlay ∷ lengths.card ∷ 25 ∷ (lengths.work.message ++ lengths.work.card ++ lengths.sheet ∷ [])
