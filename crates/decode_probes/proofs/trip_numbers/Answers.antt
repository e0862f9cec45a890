-- `decode_probes::trip_numbers` meets its contract, field by field. Assumes nothing.
use mathlib.Core.Path.{refl, ◌∙◌}
use mir.Facts.{to_z-of_z}
use mir.Syntax.{w32}
use Rattle.realtime_views.specs.Promises.Views.{view_delay, view_direction}
use Rattle.decode_probes.proofs.Options.{given, number_or_zero, signed_or_zero}
use Rattle.decode_probes.proofs.trip_numbers.Goals as goal

pub returns : goal.returns
returns c =
    λ j. record {
      cancelled = c.args.t.cancelled;
      directed = (c.is_some.ensures ∙ given view_direction refl (λ x. refl) c.args.t.direction) j;
      direction = (c.unwrap_or.ensures ∙ number_or_zero view_direction refl (λ x. refl) c.args.t.direction) j;
      delayed = (c.is_some-2.ensures ∙ given view_delay refl (λ x. refl) c.args.t.delay) j;
      delay = (to_z-of_z {w = w32} (record { sfits = c.unwrap_or-2.type_inv }) ∙ c.unwrap_or-2.ensures
          ∙ signed_or_zero view_delay refl (λ x. refl) c.args.t.delay) j;
    }
