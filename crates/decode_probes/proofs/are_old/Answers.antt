-- `decode_probes::are_old` meets its contract. Assumes nothing.
use mathlib.Core.Path.{ap, ◌∙◌}
use lib.ListN.{length}
use Rattle.std.proofs.lemmas.Bool.{lt-leb}
use Rattle.decode_probes.specs.Indexing.{unfailed}
use Rattle.decode_probes.proofs.Asking.{old_long, old_judged}
use Rattle.decode_probes.proofs.are_old.Goals as goal

pub returns-else-old-le-MOST_OLD : goal.returns-else-old-le-MOST_OLD
returns-else-old-le-MOST_OLD c =
    lt-leb (length c.args.old.now) 4000000000 c.if-old-le-MOST_OLD.false
    ∙ old_long c.args.old.now c.if-old-le-MOST_OLD.false

pub returns-then-old-le-MOST_OLD : goal.returns-then-old-le-MOST_OLD
returns-then-old-le-MOST_OLD c =
    old_judged c.args.old.now c.if-old-le-MOST_OLD.true
    (c.is_unfailed.ensures ∙ ap unfailed c.judge_old.ensures)
