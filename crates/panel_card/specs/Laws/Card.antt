-- Law. A card's questions in their order, and the finished card.
use Rattle.std.specs.Prelude.{◌≡◌, Bool, true, false, List, [], ◌∷◌, ℕ, ◌≤◌, ◌<◌, leb, replicate, Option, Some, None}
use Rattle.std.proofs.Math.Path.{refl, sym, ap}
use Rattle.std.proofs.Common.{◌∙◌, arith}
use Rattle.std.proofs.Math.Bool.{cond}
use Rattle.std.proofs.Math.Option.{Option as LogicOption, none, some}
use Rattle.std.proofs.Math.ListN.{length, get_or}
use Rattle.basics.specs.Options.{is_some}
use Rattle.basics.specs.Texts.{same}
use Rattle.basics.specs.Laws.Texts.{same_true}
use Rattle.formats.specs.Format.{write}
use Rattle.formats_judge.specs.Judged.{ok}
use Rattle.formats_read.specs.Promises.Here.{Here}
use Rattle.formats_read.specs.Laws.Here.{whole_here, halves}
use Rattle.formats_skip.specs.Laws.Leads.{lead_field}
use Rattle.formats_write.specs.Laws.Adds.{wrote}
use Rattle.decode.specs.Sizes.{most_old}
use Rattle.overlay.specs.State.{State, overlay}
use Rattle.overlay.specs.Valid.{Held}
use Rattle.overlay.specs.Image.{state_of}
use Rattle.overlay.proofs.Laws.Buffer.{state_buffer, held_rules}
use Rattle.overlay.proofs.Laws.StaysValid.{kept_of}
use Rattle.overlay.proofs.Laws.Within.{Judged56, right, formed_of}
use Rattle.overlay_noted.specs.Promises.Noted.{places_length}
use Rattle.overlay_open.specs.Promises.Opened.{ending, Notes}
use Rattle.overlay_open.specs.Laws.Held.{opened_here, open_at, open_no, feeds_up}
use Rattle.alerts_apply.specs.Promises.Known.{Knows}
use Rattle.alerts_apply.specs.Laws.Known.{knows_nothing}
use Rattle.journey.specs.Card.{card}
use Rattle.journey.specs.Enrich.{keys, headers_of}
use Rattle.journey.proofs.Laws.Counts.{finished_seven}
use Rattle.journey.proofs.Laws.Found.{shown_judged}
use Rattle.journey_places.specs.declared.CardPlaces.{CardPlaces}
use Rattle.journey_places.specs.Promises.Places.{CardAt}
use Rattle.journey_finish.specs.Promises.Finish.{StateIn}
use Rattle.journey_alerts.specs.Promises.Places.{most_text, Lent}
use Rattle.journey_survey.specs.declared.CardSurvey.{CardSurvey}
use Rattle.journey_survey.specs.Promises.Surveyed.{Surveyed}
use Rattle.journey_enrich.specs.Promises.Enrich.{Enriches}
use Rattle.panel.specs.Outcome.{refused, need, need_some}
use Rattle.panel.specs.Questions.{whole}
use Rattle.panel.specs.Card.{finished, arriving_asks, card_asks}
use Rattle.panel.specs.Calls as calls
use Rattle.panel.specs.Given.{Given}
use Rattle.panel.specs.Lengths.{sized, card_work}
use Rattle.panel.specs.Promises.Ends.{arriving_outcome}
use Rattle.panel_output.specs.declared.Ending.{Ending}
use Rattle.panel_output.specs.declared.Ending.TheVariants.{Refused}
use Rattle.panel_output.specs.Laws.Ending.{written_as}
use Rattle.panel_output.specs.Laws.Ends.{cleared}
use Rattle.panel_output.specs.Promises.Ending.{outcome_of, ending_of, Finished}
use Rattle.panel_output.specs.Promises.Ends.{Ends, Zeros}
use Rattle.panel_questions.specs.Laws.Whole.{all_read}
use Rattle.panel_card.specs.Promises.Card.{card_number, asked_number, AskedNotes, Passed, FinishesCard}
use Rattle.panel_card.specs.Laws.Number.{refused_so, passed}

-- ---- what is known of the state and of the card

module _ (o : List ℕ) {st : State} (e : state_of o ≡ some st) where
  held : Held st
  held = (state_buffer o st e).held

  state_in : StateIn o st
  state_in = record {
    end = length (write overlay st);
    here = opened_here o st e;
    up = feeds_up st held.valid;
    judged = shown_judged st (kept_of st held);
  }

  state_seven : ok 7 overlay st ≡ true
  state_seven = (held_rules st held).1

module _ {c : List ℕ} (P : Passed c) where
  card_here : Here card c 0 (length c) P.value
  card_here = whole_here card c P.value (all_read card c P.value P.read)

  card_fine : Judged56 card P.value
  card_fine = record { formed = formed_of card P.value card_here.fits; five = P.five; six = P.six }

-- ---- THE FINISHED CARD

pub card_written : {o c f t l m : List ℕ} {w : Option ℕ} {P : CardPlaces} {g : CardSurvey} → CardAt c 0 P
    → Surveyed c P.legs o f t g → Enriches g.seen g.labels c 0 o f t l (Some 0) m w
    → FinishesCard o c l m w
unfolding finished headers_of
card_written {o} C S E = record {
  wrote = λ e P.
      let h = card_here P in
      let j = card_fine P in
      let G = S.of (state_in o e) (state_seven o e) (lead_field C.legs tt h).here
      (right (right (right (right (right (right j)))))) in
      wrote (E.adds h j (state_in o e) G.gathered G.sound (ap keys G.noted));
}

-- a cleared slice knows nothing of alerts, whatever it had
pub nothing_known : (k : List ℕ) {o m : List ℕ} → m ≡ replicate (length k) 0 → Knows most_text o m
nothing_known k {o} e = rw e (knows_nothing most_text o (length k))

-- ---- the number of the first no

pub asked_closed : (o c : List ℕ) {r : Option ℕ} → r ≡ ending (state_of o) → r ≡ None → 2 ≡ asked_number o c
asked_closed o c e h = rw (open_no o e h) refl

pub asked_open : (o c : List ℕ) {r : Option ℕ} {p n : ℕ} → r ≡ ending (state_of o) → r ≡ Some p → n ≡ card_number c
    → n ≡ asked_number o c
asked_open o c e h i = i ∙ sym (rw (open_at e h).is refl)

pub two_notes : {o l : List ℕ} → AskedNotes o l 2
two_notes = record { is = λ e. absurd (omega arith) }

pub asked_notes : {o k l : List ℕ} {r : Option ℕ} {p n : ℕ} → Notes o k l r → length o ≤ most_old
    → length k ≡ places_length → r ≡ Some p → AskedNotes o l n
asked_notes N m k h = record { is = λ e. N.at (record { small = m; room = k }) h }

-- all are answered by yes
pub record Fine (o c : List ℕ) : Type 0 where
  pub state : State
  pub is : state_of o ≡ some state
  pub passes : Passed c

pub fine : {n : ℕ} (o c : List ℕ) → n ≡ asked_number o c → n ≡ 0 → Fine o c
fine o c e z = go (state_of o) refl (sym z ∙ e)
  where
    go : (s : LogicOption State) → state_of o ≡ s → 0 ≡ cond (is_some s) (card_number c) 2 → Fine o c
    go none i j = absurd (omega (arith, j))
    go (some s) i j = record { state = s; is = i; passes = passed c j }

pub card_begins : {n : ℕ} (o c : List ℕ) → n ≡ asked_number o c → n ≡ 0 → 0 < length c
card_begins o c e z = let x = (halves (card_here (fine o c e z).passes)).first in omega (arith, x.within)

-- ---- how the call ends

-- question 1, of the lengths of the overlay, the output and the working buffers
abbrev pub card_sized : ℕ → List ℕ → ℕ → ℕ → ℕ → ℕ → ℕ → Bool
card_sized n o out a b c d = same (length o ∷ out ∷ a ∷ b ∷ c ∷ d ∷ []) (n ∷ 65536 ∷ card_work)

-- what the work asks of its buffers
pub record Lends (o a b c : List ℕ) : Type 0 where
  pub alerts : Lent o a b
  pub noted : length c ≡ places_length

pub lends : (n : ℕ) (o : List ℕ) (out : ℕ) (a b c d : List ℕ) {t : Bool}
    → t ≡ card_sized n o out (length a) (length b) (length c) (length d) → t ≡ true → n ≤ most_old → Lends o a b c
lends n o out a b c d A h m =
    let e = same_true (length o ∷ out ∷ length a ∷ length b ∷ length c ∷ length d ∷ []) (n ∷ 65536 ∷ card_work)
    (sym A ∙ h) in
    let z : length o ≡ n = ap (λ l. get_or l 0 0) e in
    record {
      alerts = record {
        numbers = ap (λ l. get_or l 2 0) e;
        marks = ap (λ l. get_or l 3 0) e;
        small = omega (arith, m, z);
      };
      noted = ap (λ l. get_or l 4 0) e;
    }

-- what follows it
asked_on : (n : ℕ) (o s : List ℕ) (out i j k l : ℕ) {t : Bool} → t ≡ card_sized n o out i j k l → t ≡ true
    → calls.ends (sized n) o (calls.card s out (i ∷ j ∷ k ∷ l ∷ []))
    ≡ need_some (state_of o) 2 (λ st.
    need (leb (length s) 65536) 3 (need_some (whole card s) 4 (arriving_outcome (sized n) st)))
unfolding card_asks
asked_on n o s out i j k l A h = rw (sym A ∙ h) refl

module _ {n : ℕ} {o s : List ℕ} {out i j k l : ℕ} {t : Bool} (A : t ≡ card_sized n o out i j k l) where
  pub card_unsized : {m : List ℕ} → t ≡ false → Ends (sized n) o (calls.card s out (i ∷ j ∷ k ∷ l ∷ [])) m (Refused 1)
  unfolding card_asks
  card_unsized h = record { is = rw (sym A ∙ h) refl }

  module _ (h : t ≡ true) {q : ℕ} (e : q ≡ asked_number o s) where
    pub asked_no : {m : List ℕ} → (q ≡ 0 → ⊥) → Ends (sized n) o (calls.card s out (i ∷ j ∷ k ∷ l ∷ [])) m (Refused q)
    unfolding arriving_asks
    asked_no z = record { is = go (state_of o) e ∙ sym (asked_on n o s out i j k l A h) }
      where
        go : (st : LogicOption State) → q ≡ cond (is_some st) (card_number s) 2
            → refused q ≡ need_some st 2 (λ st.
            need (leb (length s) 65536) 3 (need_some (whole card s) 4 (arriving_outcome (sized n) st)))
        go none i = ap refused i
        go (some st) i = refused_so s _ _ i z

    pub card_ends : {m b : List ℕ} {w : Option ℕ} {r : Ending} → q ≡ 0 → out ≡ length b → FinishesCard o s b m w
        → r ≡ ending_of 8 w → Ends (sized n) o (calls.card s out (i ∷ j ∷ k ∷ l ∷ [])) m r
    unfolding arriving_asks finished
    card_ends {m} {b} z long F x =
        let Y = fine o s e z in
        let P = Y.passes in
        let seven = finished_seven Y.state (state_seven o Y.is) P.value P.seven in
        let same = same_true (length o ∷ out ∷ i ∷ j ∷ k ∷ l ∷ []) (n ∷ 65536 ∷ card_work) (sym A ∙ h) in
        let d : 65536 ≡ length b = sym (ap (λ l. get_or l 1 0) same) ∙ long in
        record {
          is = ap (outcome_of m) x ∙ written_as 8 (F.wrote Y.is P)
              ∙ sym
              (asked_on n o s out i j k l A h
              ∙ rw (Y.is, P.short, P.read, P.five, P.six, P.seven, seven, d) refl);
        }

pub zeros_four : {a b c d a' b' c' d' : List ℕ} → a' ≡ replicate (length a) 0 → b' ≡ replicate (length b) 0
    → c' ≡ replicate (length c) 0 → d' ≡ replicate (length d) 0
    → Zeros (a ∷ b ∷ c ∷ d ∷ []) (a' ∷ b' ∷ c' ∷ d' ∷ [])
zeros_four e f g h = record { is = rw (e, f, g, h) refl }

-- A CARD'S CALL
pub card_given : {n : ℕ} {old s m out : List ℕ} {size r i j k l : ℕ} {x : Ending} {a b c d : List ℕ}
    {z : List (List ℕ)} → Ends (sized n) old (calls.card s size (i ∷ j ∷ k ∷ l ∷ [])) m x
    → Zeros (a ∷ b ∷ c ∷ d ∷ []) z → length a ≡ i → length b ≡ j → length c ≡ k → length d ≡ l
    → length m ≡ size → Finished m x out r
    → Given (sized n) old (calls.card s size (i ∷ j ∷ k ∷ l ∷ [])) r out z
card_given E Z α β γ δ k F = cleared E F k Z (rw (α, β, γ, δ) refl)
