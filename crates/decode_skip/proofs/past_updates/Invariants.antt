-- `past_updates` meets its contract.
use Prim.Native.Nat.{◌-◌}
use Rattle.decode.specs.Trip.{number32, stop_update}
use Rattle.formats.specs.Format.{◌&◌}
use Rattle.formats_skip.specs.Laws.Passes.{Passing}
use Rattle.decode_skip.proofs.past_updates.Given as goal

abbrev pub invariant-loop : goal.invariant-loop
invariant-loop l = Passing (number32 & stop_update) l.s l.initial.p l.end l.p (l.end - l.counter)
