-- `decode_write::put_direction` meets its contract. Assumes nothing.
use mathlib.Core.Path.{◌≡◌, ap}
use mathlib.Core.Logic.{inr}
use Rattle.std.specs.Prelude.{ℕ, Option, Some, None, IsSomeAnd, MatchOption, refl}
use Rattle.basics.specs.Options.{maybe}
use Rattle.formats.specs.Number.{number_w}
use Rattle.formats_write.specs.Promises.Given.{given_number}
use Rattle.realtime_views.specs.Promises.Views.{view_direction}
use Rattle.decode_write.specs.Laws.Written.{given_adds}
use Rattle.decode_write.proofs.put_direction.Goals as goal

widened : (d r : Option ℕ) → MatchOption d (r ≡ None) (λ x. IsSomeAnd r (λ y. y ≡ x))
    → given_number r ≡ maybe (view_direction d)
widened None None h = refl
widened None (Some y) h = cc
widened (Some x) None h = absurd h
widened (Some x) (Some y) h = ap inr h

pub returns : goal.returns
returns c = given_adds number_w c.optional_number.ensures (widened c.args.d c.map.result c.map.ensures.cases)
