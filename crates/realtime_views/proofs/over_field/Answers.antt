-- `realtime_views::over_field` meets its contract. The invariant: what is left, over what is known now, makes what
-- the whole makes. Assumes nothing.
use mathlib.Core.Path.{refl}
use Rattle.realtime_views.specs.Laws.Seeks.{seek_is}
use Rattle.realtime_views.proofs.Finding.{found_all, found_far, found_next}
use Rattle.realtime_views.proofs.Finding.{made_as}
use Rattle.realtime_views.proofs.over_field.Goals as goal

pub returns : goal.returns
returns c =
    let R = c.loop-start.invariant in
    record {
      of = λ t e.
          found_all R (seek_is c.seek.ensures c.in_default.is) t
          c.args.inner e refl;
      within = found_far R;
    }

pub loop-start-preserved : goal.loop-start-preserved
loop-start-preserved c =
    let Q = c.over_message-d.ensures in
    found_next c.loop-start.invariant c.part.result.now
    (seek_is c.seek.ensures c.in-Some.is) c.part.ensures
    (λ u p. made_as Q.made p) Q.within
