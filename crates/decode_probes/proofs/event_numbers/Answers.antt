-- `decode_probes::event_numbers` meets its contract, field by field. Assumes nothing.
use mathlib.Core.Path.{refl, ◌∙◌}
use mir.Facts.{to_z-of_z}
use mir.Syntax.{w32, w64}
use Rattle.realtime_views.specs.Promises.Views.{view_delay, view_time}
use Rattle.decode_probes.proofs.Options.{given, signed_or_zero}
use Rattle.decode_probes.proofs.event_numbers.Goals as goal

pub returns : goal.returns
returns c =
    λ j. record {
      delayed = (c.is_some.ensures ∙ given view_delay refl (λ x. refl) c.args.e.delay) j;
      delay = (to_z-of_z {w = w32} (record { sfits = c.unwrap_or.type_inv }) ∙ c.unwrap_or.ensures
          ∙ signed_or_zero view_delay refl (λ x. refl) c.args.e.delay) j;
      timed = (c.is_some-2.ensures ∙ given view_time refl (λ x. refl) c.args.e.time) j;
      time = (to_z-of_z {w = w64} (record { sfits = c.unwrap_or-2.type_inv }) ∙ c.unwrap_or-2.ensures
          ∙ signed_or_zero view_time refl (λ x. refl) c.args.e.time) j;
    }
