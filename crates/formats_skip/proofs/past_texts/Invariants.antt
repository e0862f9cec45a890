-- `past_texts` meets its contract.
use Prim.Native.Nat.{◌-◌}
use Rattle.formats.specs.Class.{any}
use Rattle.formats.specs.Format.{text}
use Rattle.formats_skip.specs.Laws.Passes.{Passing}
use Rattle.formats_skip.proofs.past_texts.Given as goal

abbrev pub invariant-loop : goal.invariant-loop
invariant-loop l = Passing (text 0 any) l.s l.initial.p l.end l.p (l.end - l.counter)
