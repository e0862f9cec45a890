-- `realtime_views::trip_of` meets its contract: the descriptor is what is merged at 3 and 1, the delay at 3. Assumes
-- nothing.
use mathlib.Core.Path.{refl}
use mathlib.Core.List.{[], ◌∷◌}
use Rattle.realtime_views.proofs.Reader.{lasting}
use Rattle.realtime_views.proofs.Typing.{merged_read, trip_read}
use Rattle.realtime_views.proofs.trip_of.Goals as goal

pub returns : goal.returns
returns c =
    trip_read (lasting (3 ∷ 1 ∷ []) c.requires c.part.ensures refl c.over_updates-d.ensures.trip)
    (merged_read _ c.args.s.now c.args.start c.args.len c.requires c.part.ensures
    c.over_updates-d.ensures.delay) c.trip_from.ensures
