-- Believe: 01, History. What is lent to a replay by code.
use Rattle.std.specs.Prelude.{ℕ, [], ◌∷◌}
use Rattle.panel.specs.Lengths.{card_work}
use Rattle.replay_script.specs.Script.{Lent}

-- overlays of `lent` bytes, an output, a message's three working buffers, and a card's of the published lengths
abbrev pub lent_to : ℕ → ℕ → ℕ → ℕ → ℕ → Lent
lent_to lent output keys marks order = record {
  overlay = lent;
  output = output;
  message_work = keys ∷ marks ∷ order ∷ [];
  card_work = card_work;
}
