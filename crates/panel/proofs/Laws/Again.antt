-- Law. What a card call gave is a card: cut at its end and sent in again, over any overlay, questions 3 to 7 say yes to
-- it.
use Rattle.std.specs.Prelude.{ℕ, ◌-◌, ◌≤◌, ◌≡◌, refl, Bool, true, List, [], ◌∷◌, map, leb, length, take, drop, replicate}
use Rattle.std.proofs.Common.{sym, ap, ◌∙◌, append-nil, arith, le-leb, leb-true}
use Rattle.std.proofs.Math.Option.{Option, none, some}
use Rattle.std.proofs.Math.Seq.{take-append_seam, drop-append_seam}
use Rattle.formats.specs.Format.{Value, write, read}
use Rattle.formats.specs.Laws.Format.{read_write}
use Rattle.formats_judge.specs.Judged.{ok}
use Rattle.overlay.specs.State.{State, overlay}
use Rattle.overlay.specs.Image.{filled, state_of}
use Rattle.overlay.proofs.Laws.Within.{Judged56, fits_of}
use Rattle.overlay.proofs.Laws.Buffer.{held_rules, state_buffer}
use Rattle.overlay.proofs.Laws.StaysValid.{StateKept, kept_of}
use Rattle.journey.specs.Card.{card as card_form}
use Rattle.journey.proofs.Laws.Found.{shown_judged}
use Rattle.journey.proofs.Laws.Finished.{finished_judged}
use Rattle.journey.proofs.Laws.Counts.{finished_seven}
use Rattle.basics.specs.Laws.Booleans.{both_true}
use Rattle.panel.specs.Outcome.{bytes_of, ask, ask_some}
use Rattle.panel.specs.Questions.{Lengths, ended_only, whole}
use Rattle.panel.specs.Card.{finished, arriving_asks, card_asks}
use Rattle.panel.specs.Calls.{card, asks, gives}
use Rattle.panel.specs.Answers.{order, answer}
use Rattle.panel.proofs.Laws.Asks.{always, zero_accepted}
use Rattle.panel.proofs.Laws.Lawful.{whole_formed}
use Rattle.panel.proofs.Laws.Table.{lawful}
use Rattle.panel.proofs.Laws.Sizes.{out_long}
use Rattle.panel.specs.End.{end}
use Rattle.panel.proofs.Laws.End.{end_whole}

record Within (s : State) (v : Value card_form) : Type 0 where
  four : whole card_form (write card_form (finished s v)) ≡ some (finished s v)
  five : ok 5 card_form (finished s v) ≡ true
  six : ok 6 card_form (finished s v) ≡ true
  seven : ok 7 card_form (finished s v) ≡ true

-- of a card within questions 5 to 7, over a held state
finished_within : (s : State) → StateKept s → ok 7 overlay s ≡ true → (v : Value card_form) → Judged56 card_form v
    → ok 7 card_form v ≡ true → Within s v
unfolding whole finished
finished_within s k h v j e =
    let w = finished_judged _ (shown_judged s k) v j in
    let n = finished_seven s h v e in
    let r = read_write card_form (finished s v) [] (fits_of card_form refl (finished s v) w n) in
    record {
      four = ap ended_only (ap (read card_form) (sym (append-nil (write card_form (finished s v)))) ∙ r);
      five = w.five;
      six = w.six;
      seven = n;
    }

-- the bytes b hold a card, and then zeros; cut at its end and sent in again, over any buffer, questions 3 to 7 of the
-- call say yes
pub record Again (L : Lengths) (b : List ℕ) : Type 0 where
  pub zeros : drop (end 0 b) b ≡ replicate (length b - end 0 b) 0
  pub yes : (old : List ℕ) (out : ℕ) (work : List ℕ)
      → map (answer (asks L old (card (take (end 0 b) b) out work))) (3 ∷ 4 ∷ 5 ∷ 6 ∷ 7 ∷ []) ≡ replicate 5 true

five_yes : {a b c d : Bool} → a ≡ true → b ≡ true → c ≡ true → d ≡ true
    → ◌≡◌ {A = List Bool} (a ∷ true ∷ b ∷ c ∷ d ∷ []) (replicate 5 true)
five_yes p q r s = rw (p, q, r, s) refl

-- questions 3 to 7 of the card w, written
card_yes : (L : Lengths) (x : List ℕ) (w : Value card_form) → length x ≤ 65536 → whole card_form x ≡ some w
    → ok 5 card_form w ≡ true → ok 6 card_form w ≡ true → ok 7 card_form w ≡ true
    → (old : List ℕ) (out : ℕ) (work : List ℕ)
    → map (answer (asks L old (card x out work))) (3 ∷ 4 ∷ 5 ∷ 6 ∷ 7 ∷ []) ≡ replicate 5 true
unfolding card_asks arriving_asks finished
card_yes L x w l four five six seven old out work = go (state_of old) refl
  where
    go : (o : Option State) → state_of old ≡ o
        → map (answer (ask_some 2 o (λ s. ask 3 (leb (length x) 65536)
        (ask_some 4 (whole card_form x) (arriving_asks L s))))) (3 ∷ 4 ∷ 5 ∷ 6 ∷ 7 ∷ []) ≡ replicate 5 true
    go none d = refl
    go (some s) d =
        rw (
          four,
          le-leb (length x) 65536 l,
          five,
          six,
          seven,
          finished_seven s (held_rules s (state_buffer old s d).held).1 w seven,
        ) refl

-- the card w in a buffer of n bytes
filled_again : (L : Lengths) (n : ℕ) (w : Value card_form) → length (filled n (write card_form w)) ≡ n
    → length (write card_form w) ≤ 65536
    → whole card_form (write card_form w) ≡ some w → ok 5 card_form w ≡ true → ok 6 card_form w ≡ true
    → ok 7 card_form w ≡ true
    → Again L (filled n (write card_form w))
unfolding filled
filled_again L n w long l four five six seven =
    let x = write card_form w in
    let zeros : List ℕ = replicate (n - length x) 0 in
    let size : end 0 (filled n x) ≡ length x = end_whole 0 x zeros w four in
    let front : take (end 0 (filled n x)) (filled n x) ≡ x =
    ap (λ m. take m (filled n x)) size ∙ take-append_seam x zeros in
    record {
      zeros = ap (λ m. drop m (filled n x)) size ∙ drop-append_seam x zeros
          ∙ ap (λ m. replicate (m - length x) 0) (sym long)
          ∙ ap (λ m. replicate (length (filled n x) - m) 0) (sym size);
      yes = card_yes L (take (end 0 (filled n x)) (filled n x)) w (omega (arith, ap length front))
          (ap (whole card_form) front ∙ four) five six seven;
    }

-- WHAT A CARD CALL GAVE, as an arriving card
pub card_again : (L : Lengths) → L.card ≤ 65536 → (old bytes : List ℕ) (out : ℕ) (work : List ℕ)
    → (gives L old (card bytes out work)).number ≡ 0 → Again L (gives L old (card bytes out work)).out
unfolding card_asks arriving_asks
card_again L top old bytes out work e =
    let c = card bytes out work in
    let a = zero_accepted order (asks L old c) refl ((lawful c).ordered L old) e in
    let q = ap (bytes_of out) a.is in
    rw q
    (always (λ x. length (filled out x) ≡ out → Again L (filled out x)) (asks L old c)
    (λ one s d three v is five six seven eight.
    let held = (state_buffer old s d).held in
    let j : Judged56 card_form v = record { formed = whole_formed card_form bytes v is; five = five; six = six } in
    let w = finished_within s (kept_of s held) (held_rules s held).1 v j
    (both_true (ok 7 card_form v) (ok 7 card_form (finished s v)) seven).0 in
    let short = leb-true (length (write card_form (finished s v))) L.card eight in
    λ long. filled_again L out (finished s v) long (omega (arith, short)) w.four w.five w.six w.seven)
    a.is (ap length (sym q) ∙ out_long L old c))
