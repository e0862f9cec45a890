-- Law. An arriving card's questions 3 to 7, by what the judge answers.
use Rattle.std.specs.Prelude.{◌≡◌, Bool, ◌&&◌, List, ℕ, ◌≤◌, ◌<◌, leb, length, Option, Some, None}
use Rattle.std.proofs.Math.Path.{refl, sym, ap}
use Rattle.std.proofs.Common.{◌∙◌, arith, le-leb}
use Rattle.std.proofs.Math.Bool.{true, false, cond}
use Rattle.std.proofs.Math.Option.{Option as LogicOption, none, some}
use Rattle.std.proofs.lemmas.Bool.{lt-leb}
use Rattle.formats.specs.Format.{Value}
use Rattle.formats_judge.specs.Judged.{ok, first_failing, verdict, judge_to}
use Rattle.journey.specs.Card.{card}
use Rattle.panel.specs.Outcome.{Outcome, refused, need, need_some}
use Rattle.panel.specs.Questions.{whole}
use Rattle.panel_questions.specs.Promises.Numbers.{formed}
use Rattle.panel_questions.specs.Laws.Whole.{whole_broken, whole_short, whole_at}
use Rattle.panel_card.specs.Promises.Card.{card_number, Passed}

-- ---- the number, by the tests that the code makes

module _ (s : List ℕ) where
  pub card_long : 65536 < length s → 3 ≡ card_number s
  unfolding card_number
  card_long h = rw (lt-leb (length s) 65536 h) refl

  module _ (h : length s ≤ 65536) {r : Option (ℕ × ℕ)} (j : r ≡ judge_to card s 0) where
    pub card_broken : r ≡ None → 4 ≡ card_number s
    unfolding card_number
    card_broken e = rw (le-leb (length s) 65536 h, whole_broken card s j e) refl

    module _ {p n : ℕ} (e : r ≡ Some (p, n)) where
      pub card_cut : p < length s → 4 ≡ card_number s
      unfolding card_number
      card_cut l = rw (le-leb (length s) 65536 h, whole_short card s j e l) refl

      pub card_judged : length s ≤ p → n ≡ card_number s
      unfolding card_number
      card_judged l =
          let W = whole_at card s j e l in
          W.judged ∙ sym (rw (le-leb (length s) 65536 h, W.is) refl)

-- ---- what it says

-- of a card that has the form
value_refused : (five six seven more : Bool) (o : Outcome) (n : ℕ) → n ≡ first_failing five six seven → (n ≡ 0 → ⊥)
    → refused n ≡ need five 5 (need six 6 (need (seven && more) 7 o))
value_refused false six seven more o n e z = ap refused e
value_refused true false seven more o n e z = ap refused e
value_refused true true false more o n e z = ap refused e
value_refused true true true more o n e z = absurd (z e)

-- the first no decides
module _ (s : List ℕ) (more : Value card → Bool) (k : Value card → Outcome) where
  abbrev asks : Value card → Outcome
  asks v = need (ok 5 card v) 5 (need (ok 6 card v) 6 (need (ok 7 card v && more v) 7 (k v)))

  pub refused_so : {n : ℕ} → n ≡ card_number s → (n ≡ 0 → ⊥)
      → refused n ≡ need (leb (length s) 65536) 3 (need_some (whole card s) 4 asks)
  unfolding card_number
  refused_so {n} N z = go (leb (length s) 65536) (whole card s) N
    where
      go : (b : Bool) (o : LogicOption (Value card)) → n ≡ cond b (formed o (verdict card)) 3
          → refused n ≡ need b 3 (need_some o 4 asks)
      go false o e = ap refused e
      go true none e = ap refused e
      go true (some v) e = value_refused (ok 5 card v) (ok 6 card v) (ok 7 card v) (more v) (k v) n e z

record Yes (five six seven : Bool) : Type 0 where
  fifth : five ≡ true
  sixth : six ≡ true
  seventh : seven ≡ true

value_fine : (five six seven : Bool) → 0 ≡ first_failing five six seven → Yes five six seven
value_fine false six seven e = absurd (omega (arith, e))
value_fine true false seven e = absurd (omega (arith, e))
value_fine true true false e = absurd (omega (arith, e))
value_fine true true true e = record { fifth = refl; sixth = refl; seventh = refl }

-- or all are answered by yes
pub passed : (s : List ℕ) → 0 ≡ card_number s → Passed s
unfolding card_number
passed s e = go (leb (length s) 65536) refl (whole card s) refl e
  where
    go : (b : Bool) → leb (length s) 65536 ≡ b → (o : LogicOption (Value card)) → whole card s ≡ o
        → 0 ≡ cond b (formed o (verdict card)) 3 → Passed s
    go false i o j e = absurd (omega (arith, e))
    go true i none j e = absurd (omega (arith, e))
    go true i (some v) j e =
        let y = value_fine (ok 5 card v) (ok 6 card v) (ok 7 card v) e in
        record { short = i; value = v; read = j; five = y.fifth; six = y.sixth; seven = y.seventh }
