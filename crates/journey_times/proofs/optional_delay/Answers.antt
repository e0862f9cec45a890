-- `optional_delay` meets its contract.
use Rattle.journey_times.specs.Laws.Places.{delay_absent, delay_present}
use Rattle.journey_times.proofs.optional_delay.Goals as goal

pub returns-in_err-z : goal.returns-in_err-z
returns-in_err-z c = rw c.from_residual.ensures (delay_absent c.in_err-z.was c.optional_signed.ensures)

pub returns : goal.returns
returns c = search (delay_present, c.in_ok-z.was, c.optional_signed.ensures)
