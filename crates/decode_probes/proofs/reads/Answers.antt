-- `decode_probes::reads` meets its contract. Assumes nothing.
use mathlib.Core.Path.{ap, ◌∙◌}
use Rattle.basics.specs.Texts.{same}
use Rattle.decode_probes.proofs.reads.Goals as goal

pub returns : goal.returns
returns c = c.same.ensures ∙ ap (λ y. same y c.args.x.now) c.part.ensures
