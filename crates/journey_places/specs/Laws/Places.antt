-- Law. Passes over a leg's and a card's parts.
use Rattle.std.specs.Prelude.{◌≡◌, List, ℕ, suc, ◌+◌, ◌≤◌, length}
use Rattle.std.proofs.Common.{sym, ◌∙◌, arith}
use Rattle.formats.specs.Class.{any}
use Rattle.formats.specs.Format.{number, text, float, list, optional}
use Rattle.formats.specs.Promises.Outcome.{tag_at}
use Rattle.formats_read.specs.Laws.Here.{choice_in, first, second}
use Rattle.formats_read.specs.Promises.Fields.{part}
use Rattle.formats_skip.specs.Promises.Passes.{Passes, Leads}
use Rattle.formats_skip.specs.Laws.Leads.{lead_here, lead_past, lead_end, lead_text, lead_number, lead_signed}
use Rattle.formats_skip.specs.Laws.Leads.{lead_small, lead_texts, lead_optional_number, lead_optional_signed}
use Rattle.formats_skip.specs.Laws.Passes.{constant_byte, pair, any_text, any_optional_signed, text_then, signed_then}
use Rattle.formats_skip.specs.Laws.Passes.{small_then, optional_signed_then}
use Rattle.journey.specs.Card.{transit, middle, leg}
use Rattle.journey_places.specs.declared.LegPlaces.{LegPlaces}
use Rattle.journey_places.specs.declared.StopPlaces.{StopPlaces}
use Rattle.journey_places.specs.Promises.Places.{StopsAt, LegAt, ChangingAt, CardAt}

abbrev Text : List ℕ → ℕ → ℕ → Type 0
Text s p r = Passes (text 0 any) s p r

abbrev Number : List ℕ → ℕ → ℕ → Type 0
Number s p r = Passes (number 0 0) s p r

abbrev Optional : List ℕ → ℕ → ℕ → Type 0
Optional s p r = Passes (optional (number 0 0)) s p r

module _ {s : List ℕ} {p a b c d e f : ℕ} (A : Text s p a) (B : Text s a b) (C : Number s b c) (D : Number s c d)
    (E : Number s d e) (F : Number s e f) where
  pub stops_at : StopsAt s p (record { to = a; board = b; alight = c; departure = d; arrival = e; realtime = f })
  stops_at = record {
    to = lead_text 0 lead_here A;
    board = lead_text 1 (lead_text 0 lead_here B) A;
    alight = lead_text 2 (lead_text 1 (lead_number 0 lead_here C) B) A;
    departure = lead_text 3 (lead_text 2 (lead_number 1 (lead_number 0 lead_here D) C) B) A;
    arrival = lead_text 4 (lead_text 3 (lead_number 2 (lead_number 1 (lead_signed 0 lead_here E) D) C) B) A;
    realtime =
        lead_text 5 (lead_text 4 (lead_number 3 (lead_number 2 (lead_signed 1 (lead_signed 0 lead_here F) E) D) C) B) A;
  }

module _ {s : List ℕ} {p a b c d e : ℕ} (A : Text s p a) (B : Text s a b) (C : Text s b c) (D : Text s c d)
    (E : Optional s d e) where
  behind : (k : ℕ) {r : ℕ} → Leads k (part 5 transit) s e r → Leads (suc (suc (suc (suc (suc k))))) transit s p r
  behind k L =
      lead_text (suc (suc (suc (suc k)))) (lead_text (suc (suc (suc k))) (lead_text (suc (suc k))
      (lead_text (suc k) (lead_optional_number k L E) D) C) B) A

  pub leg_at : {r : StopPlaces} → StopsAt s e r
      → LegAt s p (record {
        short = a;
        route = b;
        trip = c;
        direction = d;
        from = e;
        to = r.to;
        board = r.board;
        alight = r.alight;
        departure = r.departure;
        arrival = r.arrival;
        realtime = r.realtime;
      })
  leg_at S = record {
    short = lead_text 0 lead_here A;
    route = lead_text 1 (lead_text 0 lead_here B) A;
    trip = lead_text 2 (lead_text 1 (lead_text 0 lead_here C) B) A;
    direction = lead_text 3 (lead_text 2 (lead_text 1 (lead_text 0 lead_here D) C) B) A;
    from = behind 0 lead_here;
    to = behind 1 S.to;
    board = behind 2 S.board;
    alight = behind 3 S.alight;
    departure = behind 4 S.departure;
    arrival = behind 5 S.arrival;
    realtime = behind 6 S.realtime;
  }

module _ {s : List ℕ} {p a b c d : ℕ} (A : Optional s p a) (B : Optional s a b) (C : Optional s b c)
    (D : Optional s c d) where
  pub times_end : Leads 4 (part 11 transit) s p d
  times_end = lead_optional_signed 3 (lead_optional_signed 2 (lead_optional_signed 1
      (lead_optional_signed 0 lead_here D) C) B) A

pub place_end : {s : List ℕ} {p a b c : ℕ} → Passes (optional float) s p a → Passes (optional float) s a b
    → Optional s b c → Leads 3 (part 16 transit) s p c
place_end A B C = lead_past 2 A (lead_past 1 B (lead_optional_signed 0 lead_here C))

pub changing_at : {s : List ℕ} {p b c d : ℕ} {r : LegPlaces} → LegAt s p r → Leads 4 (part 11 transit) s r.realtime b
    → Number s b c → Leads 3 (part 16 transit) s c d
    → ChangingAt s p (record { realtime = r.realtime; cancelled = b; place = c; middles = d })
changing_at A B C D = record {
  realtime = A.realtime;
  cancelled = B;
  place = lead_small 0 lead_here C;
  middles = D;
}

pub middle_at : {s : List ℕ} {p a b c : ℕ} → Text s p a → Number s a b → Number s b c → Leads 3 middle s p c
middle_at A B C = lead_text 2 (lead_signed 1 (lead_signed 0 lead_here C) B) A

pub middle_end : {s : List ℕ} {p a b c d e : ℕ} → Text s p a → Number s a b → Number s b c → Optional s c d
    → Optional s d e → Passes middle s p e
middle_end A B C D E = text_then (signed_then (signed_then (optional_signed_then (any_optional_signed E) D) C) B) A

pub realtime_end : {s : List ℕ} {p a b c d e : ℕ} → Leads 4 (part 11 transit) s p a → Number s a b
    → Leads 3 (part 16 transit) s b c → Passes (list 64 middle) s c d → Text s d e → Passes (part 11 transit) s p e
realtime_end A B C D E = lead_end 4 A tt (small_then (lead_end 3 C tt (pair D (any_text E))) B)

pub transit_end : {s : List ℕ} {p q : ℕ} {r : LegPlaces} → LegAt s p r → Passes (part 11 transit) s r.realtime q
    → Passes transit s p q
transit_end L P = lead_end 11 L.realtime tt P

module _ {s : List ℕ} {p r : ℕ} where
  pub leg_out : length s ≤ p → Passes leg s p r
  leg_out o = record { to = λ {v} h. absurd (omega (arith, choice_in v h)) }

  module _ {t : ℕ} (e : t ≡ tag_at s p) where
    pub leg_transit : t ≡ 1 → Passes transit s (p + 1) r → Passes leg s p r
    leg_transit k P = record { to = λ {v} h. P.to (second v h (sym e ∙ k)).stands }

    pub leg_walk : (t ≡ 1 → ⊥) → Text s (p + 1) r → Passes leg s p r
    leg_walk k P = record { to = λ {v} h. (any_text P).to (first v h (λ x. k (e ∙ x))).stands }

pub card_at : {s : List ℕ} {p a b c d e : ℕ} → Number s (p + 1) a → Number s a b → Number s b c → Number s c d
    → Passes (list 0 (text 0 any)) s d e
    → CardAt s p (record { departure = p + 1; arrival = a; legs = e })
card_at A B C D E = record {
  departure = lead_past 0 constant_byte lead_here;
  arrival = lead_past 1 constant_byte (lead_signed 0 lead_here A);
  legs = lead_past 5 constant_byte (lead_signed 4 (lead_signed 3 (lead_signed 2 (lead_small 1
      (lead_texts 0 lead_here E) D) C) B) A);
}
