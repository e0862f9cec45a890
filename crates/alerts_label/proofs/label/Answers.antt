-- `alerts_label::label` meets its contract.
use mathlib.Core.Path.{refl, sym}
use lib.Seq.{length-take-le}
use Rattle.alerts_label.proofs.label.Goals as goal

pub returns-then-present : goal.returns-then-present
returns-then-present c = rw c.if-present.true refl

pub slice_bounds-result-end : goal.slice_bounds-result-end
slice_bounds-result-end c =
    sym (length-take-le c.characters_end-e.result
    c.args.description.now
    c.characters_end-e.ensures.within)

pub returns : goal.returns
returns c = rw c.if-present.false c.characters_end-e.ensures.taken
