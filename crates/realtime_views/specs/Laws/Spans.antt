-- Law. The place of a scalar's text says what the scalar says, and lies where it lies.
use Rattle.std.specs.Prelude.{ℕ, ◌≡◌, refl, List}
use Rattle.std.proofs.Common.{arith}
use Rattle.realtime.specs.Typed.{text_in}
use Rattle.realtime_views.specs.Promises.Narrow.{to_span}
use Rattle.realtime_views.specs.Promises.Scalars.{said, Lying}
use Rattle.realtime_views.specs.Promises.Views.{part_in, PartInside}
use Rattle.realtime_views.specs.declared.Scalar.{Scalar}

pub span_says : (s : List ℕ) (x : Scalar) → part_in s (to_span x) ≡ text_in (said s x)
span_says s (Scalar.Number n) = refl
span_says s (Scalar.Text i l) = refl
span_says s Scalar.Nothing = refl

pub span_inside : (n : ℕ) (x : Scalar) → Lying n x → PartInside n (to_span x)
span_inside n (Scalar.Number k) h = omega arith
span_inside n (Scalar.Text i l) h = h
span_inside n Scalar.Nothing h = omega arith
