-- `decode_probes::trips_stop_text` meets its contract. Assumes nothing.
use mathlib.Core.Path.{sym, ap, ◌∙◌}
use mathlib.Core.Bool.{false}
use Rattle.realtime.specs.Schema.{stop_time_update}
use Rattle.basics.specs.Texts.{same}
use Rattle.realtime.specs.Views.{stop_update}
use Rattle.decode_probes.proofs.Reading.{of_whole_holds, of_broken, all_of}
use Rattle.decode_probes.proofs.trips_stop_text.Goals as goal

pub returns-then-is_whole : goal.returns-then-is_whole
returns-then-is_whole c =
    let a = c.args in
    of_whole_holds false (λ m. same (stop_update m).stop a.stop.now) stop_time_update a.u.now
    (sym c.is_whole.ensures ∙ c.if-is_whole.true)
    (λ m e. c.reads.ensures ∙ ap (λ v. same v.stop a.stop.now)
    (c.stop_of-r.ensures.of m (all_of stop_time_update a.u.now e)))

pub returns : goal.returns
returns c =
    let a = c.args in
    of_broken false (λ m. same (stop_update m).stop a.stop.now) stop_time_update a.u.now
    (sym c.is_whole.ensures ∙ c.if-is_whole.false)
