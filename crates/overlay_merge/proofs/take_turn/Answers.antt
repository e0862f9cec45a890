-- `take_turn` meets its contract: a law for each order of the two keys.
use Rattle.overlay_merge.specs.Laws.Merge.{left_less, left_same, left_both, left_more}
use Rattle.overlay_merge.specs.Laws.Merge.{turned_less, turned_same, turned_more, firsts}
use Rattle.overlay_merge.proofs.take_turn.Goals as goal

pub overflow_sub-result : goal.overflow_sub-result
overflow_sub-result c =
    left_less (firsts c.args.n c.args.m c.read_entry-x.ensures
    c.read_entry-y.ensures c.first.ensures)
    c.in-Less.is

pub overflow_sub-result-in-Equal : goal.overflow_sub-result-in-Equal
overflow_sub-result-in-Equal c =
    left_same (firsts c.args.n c.args.m c.read_entry-x.ensures
    c.read_entry-y.ensures c.first.ensures)
    c.in-Equal.is

pub overflow_sub-result-in-Equal-2 : goal.overflow_sub-result-in-Equal-2
overflow_sub-result-in-Equal-2 c =
    left_both (firsts c.args.n c.args.m c.read_entry-x.ensures
    c.read_entry-y.ensures c.first.ensures)
    c.requires c.in-Equal.is

pub overflow_sub-result-in-Greater : goal.overflow_sub-result-in-Greater
overflow_sub-result-in-Greater c =
    left_more (firsts c.args.n c.args.m c.read_entry-x.ensures
    c.read_entry-y.ensures c.first.ensures)
    c.requires c.in-Greater.is

pub returns-in-Less : goal.returns-in-Less
returns-in-Less c =
    turned_less (firsts c.args.n c.args.m c.read_entry-x.ensures
    c.read_entry-y.ensures c.first.ensures)
    c.fresh.ensures c.in-Less.is

pub returns-in-Equal : goal.returns-in-Equal
returns-in-Equal c =
    turned_same (firsts c.args.n c.args.m c.read_entry-x.ensures
    c.read_entry-y.ensures c.first.ensures)
    c.fresh-in-Equal.ensures c.in-Equal.is

pub returns-in-Greater : goal.returns-in-Greater
returns-in-Greater c =
    turned_more (firsts c.args.n c.args.m c.read_entry-x.ensures
    c.read_entry-y.ensures c.first.ensures)
    c.fresh-in-Greater.ensures c.requires c.in-Greater.is
