-- Believe: what every layer uses. Tables of worked rows: what is computed, and what is due, written by hand.
use Rattle.std.specs.Prelude.{◌≡◌, List, [], ◌∷◌}

pub record Row : Type 1 where
  pub of : Type 0
  pub got : of
  pub due : of

abbrev pub row : {A : Type 0} → A → A → Row
row {A} got due = record { of = A; got = got; due = due }

-- every row of a table holds
abbrev pub Holds : List Row → Type 0
Holds [] = Unit {0}
Holds (r ∷ l) = (r.got ≡ r.due) × Holds l
