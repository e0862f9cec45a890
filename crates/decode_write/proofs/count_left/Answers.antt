-- `decode_write::count_left` meets its contract. Assumes nothing.
use mathlib.Core.Path.{sym, ◌∙◌}
use native.Mathlib.Omega.{arith}
use Rattle.decode_slots.specs.Index.{index}
use Rattle.decode_write.specs.Laws.Slots.{keys_lie}
use Rattle.decode_write.specs.Laws.Counts.{none_plain, all_plain}
use Rattle.decode_write.proofs.count_left.Goals as goal

pub returns-then-has_at : goal.returns-then-has_at
returns-then-has_at c =
    λ s o. sym (none_plain c.args.feed.now s o (sym c.has_at.ensures ∙ c.if-has_at.true)
    (index c.args.keys.now c.args.marks.now c.args.order.now c.args.n))

pub count_plain-requires-clause-n_in_bounds : goal.count_plain-requires-clause-n_in_bounds
count_plain-requires-clause-n_in_bounds c = omega (arith, c.requires.ordered, c.requires.counted)

pub count_plain-requires-clause-all : goal.count_plain-requires-clause-all
count_plain-requires-clause-all c = keys_lie c.requires

pub returns : goal.returns
returns c =
    λ s o. c.count_plain.ensures
    ∙ sym (all_plain c.args.feed.now s o (sym c.has_at.ensures ∙ c.if-has_at.false)
    (index c.args.keys.now c.args.marks.now c.args.order.now c.args.n))
