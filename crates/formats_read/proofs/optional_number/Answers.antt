-- `optional_number` meets its contract.
use Rattle.formats_read.proofs.Laws
use Rattle.formats_read.specs.Laws.Here.{number_here}
use mathlib.Core.Path.{sym, ◌∙◌}
use Rattle.formats_read.proofs.optional_number.Goals as goal

pub returns-then-s-at : goal.returns-then-s-at
returns-then-s-at c = λ lo hi v q h. absurd (Laws.optional_out v h c.if-s-at.true)

pub returns-then-tag-eq1 : goal.returns-then-tag-eq1
returns-then-tag-eq1 c =
    λ lo hi v q h. Laws.optional_some v h _ (sym c.tag.ensures ∙ c.if-tag-eq1.true)
    (λ x y. c.number.ensures.value (number_here y))

pub returns : goal.returns
returns c = λ lo hi v q h. Laws.optional_none v h (λ t. c.if-tag-eq1.false (c.tag.ensures ∙ t))
