-- `past_optional_inside` meets its contract.
use Rattle.formats_skip.specs.Laws.Passes.{near_some}
use Rattle.formats_skip.proofs.past_optional_inside.Goals as goal

pub returns-then-s-at-eq1 : goal.returns-then-s-at-eq1
returns-then-s-at-eq1 c = search near_some
