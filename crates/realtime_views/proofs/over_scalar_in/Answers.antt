-- `realtime_views::over_scalar_in` meets its contract. The invariant: what is left, over what is known now, makes what
-- the whole makes. Assumes nothing.
use Rattle.realtime_views.specs.Laws.Seeks.{seek_is}
use Rattle.realtime_views.proofs.Finding.{found_all, found_far, found_next}
use Rattle.realtime_views.proofs.over_scalar_in.Goals as goal

pub returns : goal.returns
returns c =
    let R = c.loop-start.invariant in
    record {
      of = found_all R (seek_is c.seek.ensures c.in_default.is);
      within = found_far R;
    }

pub loop-start-preserved : goal.loop-start-preserved
loop-start-preserved c =
    let O = c.over_scalar-d.ensures in
    found_next c.loop-start.invariant c.part.result.now
    (seek_is c.seek.ensures c.in-Some.is) c.part.ensures O.of O.within
