-- `decode_probes::trips_judge` meets its contract. Assumes nothing.
use mathlib.Core.Path.{ap, ◌∙◌}
use Rattle.decode_probes.specs.Answers.{question_of}
use Rattle.decode_probes.proofs.trips_judge.Goals as goal

pub returns : goal.returns
returns c = c.question_of.ensures ∙ ap question_of c.judge.ensures
