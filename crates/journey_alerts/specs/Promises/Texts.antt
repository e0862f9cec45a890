-- Promise. The texts of a leg that alerts are asked by, as parts of the card.
use Rattle.std.specs.Prelude.{◌≡◌, List, ℕ, ◌≤◌, length}
use Rattle.formats.specs.Format.{Value}
use Rattle.formats.specs.declared.Span.{Span}
use Rattle.formats_read.specs.Promises.Here.{Here}
use Rattle.decode_slots.specs.Places.{bytes_in}
use Rattle.journey.specs.Card.{Transit, transit, transit_of}
use Rattle.journey_alerts.specs.declared.LegTexts.{LegTexts}

pub record SpanIn (s : List ℕ) (x : Span) : Type 0 where
  pub forward : x.from ≤ x.to
  pub within : x.to ≤ length s

abbrev pub bytes_of : List ℕ → Span → List ℕ
bytes_of s x = bytes_in s (x.from, x.to)

pub record TextsIn (s : List ℕ) (T : LegTexts) : Type 0 where
  pub mode : SpanIn s T.mode
  pub short : SpanIn s T.short
  pub route : SpanIn s T.route
  pub trip : SpanIn s T.trip
  pub from : SpanIn s T.from
  pub to : SpanIn s T.to

-- they are those of leg t
pub record TextsOf (s : List ℕ) (T : LegTexts) (t : Transit) : Type 0 where
  pub mode : bytes_of s T.mode ≡ t.mode
  pub short : bytes_of s T.short ≡ t.short
  pub route : bytes_of s T.route ≡ t.route
  pub trip : bytes_of s T.trip ≡ t.trip
  pub from : bytes_of s T.from ≡ t.from
  pub to : bytes_of s T.to ≡ t.to

pub record LegTextsAt (s : List ℕ) (p : ℕ) (T : LegTexts) : Type 0 where
  pub inside : TextsIn s T
  pub of : {q : ℕ} {v : Value transit} → Here transit s p q v → TextsOf s T (transit_of v)
