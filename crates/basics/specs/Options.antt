-- Believe: what every layer uses. Options: `Option` is what a search or a reader finds, `Maybe` an optional value
-- of a format, absent or given.
use Rattle.std.specs.Prelude.{◌⊎◌, Bool, false, true}
use Rattle.std.proofs.Common.{inl, inr}
use Rattle.std.proofs.Math.Option.{Option, none, some}

-- what an optional value is: absent, or given
abbrev pub Maybe : Type 0 → Type 0
Maybe A = Unit {0} ⊎ A

-- what is found, as an optional value
abbrev pub maybe : {A : Type 0} → Option A → Maybe A
maybe none = inl tt
maybe (some a) = inr a

-- what is there, else another: `or`
abbrev pub or_else : {A : Type 0} → Option A → Option A → Option A
or_else none b = b
or_else (some a) b = some a

-- `and_then`
abbrev pub bind_o : {A B : Type 0} → Option A → (A → Option B) → Option B
bind_o none q = none
bind_o (some a) q = q a

-- of two optional values the first that is given
abbrev pub or_other : {A : Type 0} → Maybe A → Maybe A → Maybe A
or_other (inl x) other = other
or_other (inr a) other = inr a

-- something is there and passes a test
abbrev pub some_and : {A : Type 0} → (A → Bool) → Option A → Bool
some_and p none = false
some_and p (some a) = p a

-- an optional value is given and passes a test
abbrev pub given_and : {A : Type 0} → (A → Bool) → Maybe A → Bool
given_and p (inl x) = false
given_and p (inr a) = p a

-- the given value, else another
abbrev pub given_or : {A : Type 0} → A → Maybe A → A
given_or old (inl x) = old
given_or old (inr a) = a

-- something is there
abbrev pub is_some : {A : Type 0} → Option A → Bool
is_some none = false
is_some (some a) = true
