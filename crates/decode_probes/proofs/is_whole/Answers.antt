-- `decode_probes::is_whole` meets its contract, by the kind of the verdict. Assumes nothing.
use mathlib.Core.Path.{sym, ap, ◌∙◌}
use mathlib.Core.Bool.{not}
use Rattle.realtime.specs.Judge.{rules}
use Rattle.realtime.specs.Schema.{feed}
use Rattle.realtime.specs.Tree.{tree}
use Rattle.decode_probes.proofs.Reading.{unbroken, other_unbroken, asked_whole}
use Rattle.decode_probes.proofs.is_whole.Goals as goal
use Rattle.decode_probes.proofs.is_whole.Goals.{in-Broken, in_default}

pub returns : goal.returns
returns c =
    let said = ap unbroken c.judge.ensures ∙ asked_whole rules c.args.message (tree feed c.args.message c.args.s.now) in
    elim c.match-matches.branch [
      | in-Broken w ↦ ap not w.matches-is ∙ ap unbroken (sym w.in-Broken.is) ∙ said
      | in_default w ↦ ap not w.matches-is ∙ sym (other_unbroken c.judge.result w.in_default.not-Broken) ∙ said
    ]
