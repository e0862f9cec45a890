-- `formats_text::all_printable` meets its contract.
use Rattle.std.proofs.Common.{arith}
use Rattle.formats.specs.Class.{printable, allowed}
use Rattle.formats_text.proofs.Bytes.{passed_start, passed_more, passed_no, passed_last}
use Rattle.formats_text.proofs.all_printable.Goals as goal

pub loop-block-init : goal.loop-block-init
loop-block-init c = search passed_start

pub returns-then-not-all_within : goal.returns-then-not-all_within
returns-then-not-all_within c =
    passed_no (allowed printable) c.loop-block.invariant c.in-Some.ensures.cases.0
    c.all_within.ensures c.if-not-all_within.true

pub loop-block-preserved : goal.loop-block-preserved
loop-block-preserved c =
    let e = c.in-Some.ensures.cases in
    passed_more (allowed printable) c.loop-block.invariant e.0 c.all_within.ensures e.1 e.2 c.if-not-all_within.false

pub returns : goal.returns
returns c =
    passed_last (allowed printable) c.loop-block.invariant c.in_default.ensures.cases
    (omega arith) c.all_within-2.ensures
