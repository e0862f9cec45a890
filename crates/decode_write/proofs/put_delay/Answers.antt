-- `decode_write::put_delay` meets its contract. Assumes nothing.
use mathlib.Core.Path.{◌≡◌, ap}
use mathlib.Core.Logic.{inr}
use Rattle.std.specs.Prelude.{ℤ, Option, Some, None, IsSomeAnd, MatchOption, refl}
use Rattle.basics.specs.Options.{maybe}
use Rattle.formats_write.specs.Promises.Given.{given_signed}
use Rattle.realtime_views.specs.Promises.Views.{view_delay}
use Rattle.decode_write.specs.Promises.Written.{signed_w}
use Rattle.decode_write.specs.Laws.Written.{given_adds}
use Rattle.decode_write.proofs.put_delay.Goals as goal

widened : (d r : Option ℤ) → MatchOption d (r ≡ None) (λ x. IsSomeAnd r (λ y. y ≡ x))
    → given_signed r ≡ maybe (view_delay d)
widened None None h = refl
widened None (Some y) h = cc
widened (Some x) None h = absurd h
widened (Some x) (Some y) h = ap inr h

pub returns : goal.returns
returns c = given_adds signed_w c.put_signed.ensures (widened c.args.d c.map.result c.map.ensures.cases)
