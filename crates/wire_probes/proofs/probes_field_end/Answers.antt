-- `wire_probes::probes_field_end` meets its contract. Assumes nothing.
use Rattle.wire_probes.proofs.Ends.{end_no_key, end_no_value, end_past}
use mathlib.Core.Path.{sym, ◌∙◌}
use Rattle.wire_probes.proofs.probes_field_end.Goals as goal

pub returns-in_default : goal.returns-in_default
returns-in_default c =
    end_no_key c.args.s.now c.args.at
    (sym c.in_default.is ∙ c.key.ensures)

pub returns-in_default-skip : goal.returns-in_default-skip
returns-in_default-skip c =
    end_no_value c.args.s.now
    c.args.at _ _ _
    (sym c.in-Some.is
    ∙ c.key.ensures)
    (sym c.in_default-skip.is ∙ c.skip.ensures)

pub returns : goal.returns
returns c =
    end_past c.args.s.now
    c.args.at _ _ _
    (sym c.in-Some.is
    ∙ c.key.ensures) _
    (sym c.in-Some-skip.is ∙ c.skip.ensures)
