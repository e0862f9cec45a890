-- `decode_probes::header_numbers` meets its contract, field by field. Assumes nothing.
use mathlib.Core.Path.{refl, ◌∙◌}
use Rattle.realtime_views.specs.Promises.Views.{view_timestamp}
use Rattle.decode_probes.proofs.Options.{given, number_or_zero}
use Rattle.decode_probes.proofs.header_numbers.Goals as goal

pub returns : goal.returns
returns c =
    λ j. record {
      differential = c.args.h.differential;
      timed = (c.is_some.ensures ∙ given view_timestamp refl (λ x. refl) c.args.h.timestamp) j;
      timestamp = (c.unwrap_or.ensures ∙ number_or_zero view_timestamp refl (λ x. refl) c.args.h.timestamp) j;
    }
