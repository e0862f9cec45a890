-- `slices::all_zero` meets its contract: its blocks and the rest decide. Assumes nothing.
use Prim.Native.Nat.{◌/◌}
use mathlib.Core.Path.{sym, ap, ◌∙◌}
use lib.ListN.{length}
use Rattle.std.proofs.Common.{rules}
use borrow.Author.Tests.{tests}
use Rattle.std.proofs.lemmas.Iterator.{YieldsList-from_slice}
use Rattle.std.proofs.lemmas.Iterator.Search.{all_from_yields_List}
use Rattle.std.specs.List.{list_all}
use Rattle.slices.proofs.Zero.{blocks_true, blocks_false}
use Rattle.slices.specs.Lists.{zeros}
use Rattle.slices.proofs.all_zero.Goals as goal

pub returns-then-all : goal.returns-then-all
returns-then-all c =
    let s = c.args.s.now in
    let walked =
    all_from_yields_List zeros _ _ c.all.result c.all.ensures.ran (YieldsList-from_slice c.as_chunks.result.0.now cc)
    (λ x b q k. search (rules, tests)) in
    c.zero_block.ensures
    ∙ ap zeros c.as_chunks.ensures.back
    ∙ blocks_true 256 (length s / 256) s
    (sym (walked ∙ ap (list_all zeros) c.as_chunks.ensures.front) ∙ c.if-all.true)

pub returns-else-all : goal.returns-else-all
returns-else-all c =
    let s = c.args.s.now in
    let walked =
    all_from_yields_List zeros _ _ c.all.result c.all.ensures.ran (YieldsList-from_slice c.as_chunks.result.0.now cc)
    (λ x b q k. search (rules, tests)) in
    c.if-all.false
    ∙ blocks_false 256 (length s / 256) s
    (sym (walked ∙ ap (list_all zeros) c.as_chunks.ensures.front) ∙ c.if-all.false)
