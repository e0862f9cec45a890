-- `untold` meets its contract.
use mathlib.Core.Path.{◌∙◌}
use mathlib.Core.Path.{refl}
use mir.Facts.{to_z-of_z}
use Rattle.journey_times.proofs.untold.Goals as goal

pub returns : goal.returns
returns c = c.delayed.ensures ∙ rw (to_z-of_z c.ranges.at) refl
