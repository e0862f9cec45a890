-- Law. The lengths are the published ones, and demand 3 holds at them.
use Rattle.std.specs.Prelude.{refl, List}
use Rattle.panel.specs.Questions.{Published}
use Rattle.panel.specs.Rule.{no_book}
use Rattle.panel.specs.Calls.{Call, fresh_overlay}
use Rattle.panel.specs.Demand3.{Demand3}
use Rattle.panel.proofs.Laws.Demand3.{demand_3}
use Rattle.panel.specs.Lengths.{lengths}

pub lengths_published : Published lengths
lengths_published = record { overlay = refl; card = refl; sheet = refl }

-- DEMAND 3 at the lengths of the compiled calls
pub demand_3_compiled : (cs : List Call) → Demand3 lengths (fresh_overlay lengths) no_book cs
demand_3_compiled cs = demand_3 lengths lengths_published cs
