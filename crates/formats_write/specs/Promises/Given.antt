-- Promise. What the optional values of the code stand for, and the writing of a text.
use Rattle.std.specs.Prelude.{List, [], ◌++◌, ◌⊎◌, ℕ, ◌≤◌, ℤ, length, Option, Some, None}
use Rattle.std.proofs.Common.{inl, inr}
use Rattle.std.proofs.Math.Seq.{slice}
use Rattle.formats.specs.Readers.{choice_w}
use Rattle.formats.specs.Number.{number_w}
use Rattle.formats.specs.declared.Span.{Span}

-- 0, or 1 and the value
abbrev pub optional_w : {A : Type 0} → (A → List ℕ) → Unit {0} ⊎ A → List ℕ
optional_w w v = choice_w (λ u. []) w v

abbrev pub given_number : Option ℕ → Unit {0} ⊎ ℕ
given_number None = inl tt
given_number (Some n) = inr n

abbrev pub given_signed : Option ℤ → Unit {0} ⊎ ℤ
given_signed None = inl tt
given_signed (Some z) = inr z

abbrev pub text_w : List ℕ → List ℕ
text_w v = number_w (length v) ++ v

abbrev pub given_text : List ℕ → Option Span → Unit {0} ⊎ List ℕ
given_text s None = inl tt
given_text s (Some t) = inr (slice t.from t.to s)

-- a text that is there lies in s
abbrev pub Inside : List ℕ → Option Span → Type 0
Inside s None = Unit {0}
Inside s (Some t) = (t.from ≤ t.to) × (t.to ≤ length s)
