-- `past_middles` meets its contract.
use Prim.Native.Nat.{◌-◌}
use Rattle.formats_skip.specs.Laws.Passes.{Passing}
use Rattle.journey.specs.Card.{middle}
use Rattle.journey_places.proofs.past_middles.Given as goal

abbrev pub invariant-loop : goal.invariant-loop
invariant-loop l = Passing middle l.s l.initial.p l.end l.p (l.end - l.counter)
