-- `each_candidate`: the candidates behind k are met.
use Rattle.journey_alerts.specs.Promises.Alerts.{EachMet}
use Rattle.journey_alerts.specs.Laws.Alerts.{each_start, each_step, each_stop}
use Prim.Native.Nat.{◌-◌}
use mathlib.Core.Path.{◌≡◌, refl}
use lib.ListN.{length}
use borrow.Author.Rules.{rules}
use Rattle.journey_alerts.proofs.each_candidate.Goals as goal

pub loop-k-init : goal.loop-k-init
loop-k-init c = (refl, refl, refl, refl, search each_start)

pub meet_alert-r-requires-clause-texts_in : goal.meet_alert-r-requires-clause-texts_in
meet_alert-r-requires-clause-texts_in c = c.requires.texts_in

pub meet_alert-r-requires-clause-sound_labels : goal.meet_alert-r-requires-clause-sound_labels
meet_alert-r-requires-clause-sound_labels c =
    let i = c.loop-k.invariant in
    (i.4.sound, c.requires.sound_labels.1)

pub meet_alert-r-requires-clause-knows : goal.meet_alert-r-requires-clause-knows
meet_alert-r-requires-clause-knows c =
    let i = c.loop-k.invariant in
    rw (← i.0) at i.4.knows

pub overflow_add-k : goal.overflow_add-k
overflow_add-k c = search (rules, c.loop-k-test.true, c.ranges.n)

pub loop-k-preserved : goal.loop-k-preserved
loop-k-preserved c = (
  search rules,
  search rules,
  search rules,
  search rules,
  each_step c.loop-k.invariant.4 c.loop-k-test.true c.number_at-i.ensures
      c.place_at-p.ensures c.loop-k.invariant.0 c.meet_alert-r.ensures,
)

pub returns : goal.returns
returns c = search each_stop
