-- `formats_text::few_printable` meets its contract.
use Rattle.std.proofs.Common.{◌∙◌, rules, tests, arith}
use Rattle.std.proofs.lemmas.Iterator.{YieldsList-from_slice}
use Rattle.std.proofs.lemmas.Iterator.Search.{all_from_yields_List}
use Rattle.formats.specs.Class.{printable, allowed}
use Rattle.formats_text.proofs.Bytes.{all_is, both_ends}
use Rattle.formats_text.proofs.few_printable.Goals as goal

pub returns-then-v-ge4 : goal.returns-then-v-ge4
returns-then-v-ge4 c =
    both_ends (allowed printable) 4 c.args.v.now (omega arith)
    c.all_within.ensures c.all_within-then-v-ge4.ensures

pub returns-else-v-ge4 : goal.returns-else-v-ge4
returns-else-v-ge4 c =
    all_from_yields_List (allowed printable) _ _ _ c.all.ensures.ran (YieldsList-from_slice c.args.v.now cc)
    (λ x b q k. search (rules, tests))
    ∙ all_is (allowed printable) c.args.v.now
