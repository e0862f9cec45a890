-- Promise. The first of a card's questions whose answer is no, and the finished card.
use Rattle.std.specs.Prelude.{◌≡◌, true, cond, List, ℕ, leb, length, Option}
use Rattle.std.proofs.Math.Option.{some}
use Rattle.basics.specs.Options.{is_some}
use Rattle.formats.specs.Format.{Value, write}
use Rattle.formats_judge.specs.Judged.{ok, verdict}
use Rattle.formats_write.specs.Promises.Adds.{Wrote}
use Rattle.overlay.specs.State.{State}
use Rattle.overlay.specs.Image.{state_of}
use Rattle.overlay_noted.specs.Promises.Noted.{Noted}
use Rattle.journey.specs.Card.{card}
use Rattle.panel.specs.Questions.{whole}
use Rattle.panel.specs.Card.{finished}
use Rattle.panel_questions.specs.Promises.Numbers.{formed}

-- the first of the questions 3 to 7 that an arriving card fails, or 0
unfoldable pub card_number : List ℕ → ℕ
card_number s = cond (leb (length s) 65536) (formed (whole card s) (verdict card)) 3

-- the first of the questions 2 to 7
abbrev pub asked_number : List ℕ → List ℕ → ℕ
asked_number o s = cond (is_some (state_of o)) (card_number s) 2

-- where the number is 0, the places of the overlay o are noted in l
pub record AskedNotes (o l : List ℕ) (n : ℕ) : Type 0 where
  pub is : n ≡ 0 → Noted o l

-- a card that passes them
pub record Passed (s : List ℕ) : Type 0 where
  pub short : leb (length s) 65536 ≡ true
  pub value : Value card
  pub read : whole card s ≡ some value
  pub five : ok 5 card value ≡ true
  pub six : ok 6 card value ≡ true
  pub seven : ok 7 card value ≡ true

-- the card c, finished over the state of o, from the start of an output on: l at first, m at last
pub record FinishesCard (o c l m : List ℕ) (w : Option ℕ) : Type 0 where
  pub wrote : {st : State} → state_of o ≡ some st → (P : Passed c) → Wrote l m w (write card (finished st P.value))
