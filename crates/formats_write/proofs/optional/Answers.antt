-- `optional` meets its contract.
use mathlib.Core.Path.{◌≡◌}
use Rattle.formats_write.specs.Laws.Adds.{then}
use Rattle.formats_write.proofs.optional.Goals as goal

pub returns-in-Some-clause-present : goal.returns-in-Some-clause-present
returns-in-Some-clause-present g c = λ x e y h.
    let same : c.in-Some.x ≡ x = cc in then c.byte-q.ensures (h _ _ _ _ (rw same at c.write.ensures))
