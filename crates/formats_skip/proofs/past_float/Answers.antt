-- `past_float` meets its contract.
use Rattle.formats_skip.specs.Laws.Passes.{float_out, float_short, float_bytes}
use Rattle.formats_skip.proofs.past_float.Goals as goal
use Rattle.formats_skip.proofs.past_float.Goals.{then-s-at-via-then-s-at, then-s-at-via-else-s-at+then-s-at-lt8}

pub returns-then-s-at : goal.returns-then-s-at
returns-then-s-at c =
    elim c.then-s-at.branch [
      | then-s-at-via-then-s-at w ↦ search float_out
      | then-s-at-via-else-s-at+then-s-at-lt8 w ↦ search float_short
    ]

pub returns : goal.returns
returns c = float_bytes
