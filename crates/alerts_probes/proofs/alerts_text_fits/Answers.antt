-- `alerts_probes::alerts_text_fits` meets its contract.
use mathlib.Core.Path.{ap}
use mathlib.Core.Bool.{not}
use Rattle.alerts_probes.specs.Laws.Probes.{probe_spaced, probe_full, probe_fits, room_true}
use Rattle.alerts_probes.proofs.alerts_text_fits.Goals as goal

pub returns-then-space-short : goal.returns-then-space-short
returns-then-space-short c = search (probe_spaced)

pub returns-then-not-roomy : goal.returns-then-not-roomy
returns-then-not-roomy c = search (probe_full)

pub text_fits-requires : goal.text_fits-requires
text_fits-requires c = room_true _ _ _ _ _ c.roomy.ensures (ap not c.if-not-roomy.false)

pub returns : goal.returns
returns c = search (probe_fits)
