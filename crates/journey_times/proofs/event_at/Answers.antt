-- `event_at` meets its contract.
use Rattle.journey_times.specs.Laws.Places.{reads_event}
use Rattle.journey_times.proofs.event_at.Goals as goal

pub returns : goal.returns
returns c = reads_event c.past_optional_number-next.ensures c.optional_delay.ensures c.optional_signed.ensures
