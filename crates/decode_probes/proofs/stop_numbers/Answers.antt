-- `decode_probes::stop_numbers` meets its contract, field by field. Assumes nothing.
use Rattle.decode_probes.proofs.stop_numbers.Goals as goal

pub returns : goal.returns
returns c =
    λ j. record {
      sequence = c.args.u.sequence;
      skipped = c.args.u.skipped;
      arrival = c.event_numbers.ensures j;
      departure = c.event_numbers-2.ensures j;
    }
