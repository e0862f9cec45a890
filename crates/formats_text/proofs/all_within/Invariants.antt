-- `formats_text::all_within` meets its contract.
use Rattle.std.proofs.Common.{◌≡◌, take}
use Rattle.formats.specs.Class.{inside}
use Rattle.basics.specs.Lists.{all}
use Rattle.formats_text.proofs.all_within.Given as goal

abbrev pub invariant-loop-b : goal.invariant-loop-b
invariant-loop-b l = l.all ≡ all (inside (l.low, l.high)) (take l.b-index l.v)
