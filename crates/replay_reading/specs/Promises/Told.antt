-- Promise. What a call of a script that writes no overlay told: its number, and its output behind it.
use Rattle.std.specs.Prelude.{◌≡◌, true, false, List, [], ◌∷◌, ℕ, ◌≤◌, Option, Some, None}
use Rattle.std.proofs.Math.Seq.{slice}
use Rattle.formats_write.specs.Promises.Adds.{Adds}
use Rattle.formats_read.specs.Promises.Here.{Here}
use Rattle.panel.specs.Questions.{Lengths}
use Rattle.panel.specs.Calls.{Call, card, report, gives}
use Rattle.panel.specs.Lengths.{card_work}
use Rattle.replay_script.specs.Script.{lengths_form, as_many, within}
use Rattle.replay_script.specs.Tells.{telling}
use Rattle.replay_script.specs.declared.Asked.{Asked}
use Rattle.replay_reading.specs.declared.CardWork.{CardWork}

-- a report
pub record ToldReport (L : Lengths) (s : List ℕ) (q : Asked) (old out : List ℕ) (p : ℕ) (next : List ℕ)
    (place : Option ℕ) :
    Type 0 where
  pub told : Adds out (Some p) next place
      (telling (report (slice q.feed.from q.feed.to s) q.out)
      (gives L old (report (slice q.feed.from q.feed.to s) q.out)))

abbrev pub lengths_of : CardWork → List ℕ
lengths_of w = w.candidates ∷ w.met ∷ w.noted ∷ w.known ∷ []

-- the lengths of a card's working buffers, as they stand at p
pub record ReadsCardWork (s : List ℕ) (p : ℕ) (r : CardWork) : Type 0 where
  pub of : {w : List ℕ} {q : ℕ} → Here lengths_form s p q w → lengths_of r ≡ as_many card_work w

-- buffers of these lengths are parts of such of those lengths
pub record CardFits (w : CardWork) (c m n k : ℕ) : Type 0 where
  pub candidates : w.candidates ≤ c
  pub met : w.met ≤ m
  pub noted : w.noted ≤ n
  pub known : w.known ≤ k

-- the call c over `old` has the number k and left x
pub record Answers (L : Lengths) (old : List ℕ) (c : Call) (k : ℕ) (x : List ℕ) : Type 0 where
  pub number : k ≡ (gives L old c).number
  pub out : x ≡ (gives L old c).out

-- a card that asks for working buffers of the lengths `work`
pub record ToldCardOf (L : Lengths) (s : List ℕ) (q : Asked) (work old out : List ℕ) (p : ℕ) (next : List ℕ)
    (place : Option ℕ) :
    Type 0 where
  pub told : Adds out (Some p) next place
      (telling (card (slice q.input.from q.input.to s) q.out work)
      (gives L old (card (slice q.input.from q.input.to s) q.out work)))

-- a card of a script, over working buffers of the published lengths
pub record ToldCard (L : Lengths) (s : List ℕ) (q : Asked) (old out : List ℕ) (p : ℕ) (next : List ℕ)
    (place : Option ℕ) :
    Type 0 where
  pub unlent : {w : List ℕ} {e : ℕ} → Here lengths_form s q.work e w
      → within (as_many card_work w) card_work ≡ false → place ≡ None
  pub of : {w : List ℕ} {e : ℕ} → Here lengths_form s q.work e w → within (as_many card_work w) card_work ≡ true
      → ToldCardOf L s q (as_many card_work w) old out p next place
