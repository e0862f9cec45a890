-- `past_trips` meets its contract.
use Prim.Native.Nat.{◌-◌}
use Rattle.decode.specs.Trip.{trip_entry}
use Rattle.formats_skip.specs.Laws.Passes.{Passing}
use Rattle.decode_skip.proofs.past_trips.Given as goal

abbrev pub invariant-loop : goal.invariant-loop
invariant-loop l = Passing trip_entry l.s l.initial.p l.end l.p (l.end - l.counter)
