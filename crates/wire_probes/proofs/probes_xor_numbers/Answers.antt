-- `wire_probes::probes_xor_numbers` meets its contract. Assumes nothing.
use Rattle.wire_probes.proofs.Numbers.{xor_ends, xor_breaks, xor_more, xor_less}
use mathlib.Core.Path.{sym, ◌∙◌}
use Rattle.wire_probes.proofs.probes_xor_numbers.Goals as goal

pub returns-in_default : goal.returns-in_default
returns-in_default c =
    xor_breaks c.args.s.now
    c.loop-at.acc c.loop-at.at
    c.loop-at.invariant c.loop-at-test.true
    (sym c.in_default.is ∙ c.number.ensures)

pub loop-at-smaller : goal.loop-at-smaller
loop-at-smaller c =
    xor_less c.args.s.now
    c.loop-at.acc c.loop-at.at
    c.loop-at.invariant _ _
    (sym c.in-Some.is ∙ c.number.ensures)

pub loop-at-preserved : goal.loop-at-preserved
loop-at-preserved c =
    xor_more c.args.s.now
    c.loop-at.acc c.loop-at.at
    c.loop-at.invariant _ _
    (sym c.in-Some.is ∙ c.number.ensures)

pub returns : goal.returns
returns c =
    xor_ends c.args.s.now c.loop-at.acc c.loop-at.at
    c.loop-at.invariant c.loop-at-test.false
