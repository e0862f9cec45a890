-- An optional number as the C host is told it: whether it is given, and it or 0. Assumes nothing.
use mathlib.Core.Path.{◌≡◌, sym, ap}
use mathlib.Core.Option.{Option as LogicOption, none, some}
use Rattle.std.specs.Prelude.{ℕ, ℤ, pos, Option, Some, None, is_some}
use Rattle.std.specs.Option.{unwrap_or}
use Rattle.basics.specs.Options.{is_some as is_given}
use Rattle.realtime.specs.Typed.{or_zero}
use Rattle.decode_probes.specs.Answers.{or_nought}

-- a view of the code's options as the definitions' own
module _ {A : Type 0} (view : Option A → LogicOption A) (nothing : view None ≡ none)
    (something : (x : A) → view (Some x) ≡ some x) where
  pub given : (v : Option A) → is_some v ≡ is_given (view v)
  given None = ap is_given (sym nothing)
  given (Some x) = ap is_given (sym (something x))

pub number_or_zero : (view : Option ℕ → LogicOption ℕ) → view None ≡ none → ((x : ℕ) → view (Some x) ≡ some x)
    → (v : Option ℕ) → unwrap_or v 0 ≡ or_zero (view v)
number_or_zero view e f None = ap or_zero (sym e)
number_or_zero view e f (Some x) = ap or_zero (sym (f x))

pub signed_or_zero : (view : Option ℤ → LogicOption ℤ) → view None ≡ none → ((x : ℤ) → view (Some x) ≡ some x)
    → (v : Option ℤ) → unwrap_or v (pos 0) ≡ or_nought (view v)
signed_or_zero view e f None = ap or_nought (sym e)
signed_or_zero view e f (Some x) = ap or_nought (sym (f x))
