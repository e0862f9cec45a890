-- `decode_probes::trips_stop` meets its contract. Assumes nothing.
use mathlib.Core.Path.{◌≡◌, sym, ap, ◌∙◌}
use Rattle.realtime.specs.Schema.{stop_time_update}
use Rattle.realtime.specs.Views.{stop_update}
use Rattle.decode_probes.specs.Answers.{stop_numbers_of, no_stop}
use Rattle.decode_probes.proofs.Reading.{of_whole_holds, of_broken, all_of}
use Rattle.decode_probes.proofs.trips_stop.Goals as goal

pub returns-then-is_whole : goal.returns-then-is_whole
returns-then-is_whole c =
    of_whole_holds no_stop (λ m. stop_numbers_of (stop_update m)) stop_time_update c.args.u.now
    (sym c.is_whole.ensures ∙ c.if-is_whole.true)
    (λ m e. c.stop_numbers.ensures ∙ ap stop_numbers_of
    (c.stop_of.ensures.of m (all_of stop_time_update c.args.u.now e)))

pub returns : goal.returns
returns c =
    let d = c.default.ensures in
    let none : c.default.result ≡ no_stop = λ j. record {
      sequence = d.0 j;
      skipped = d.1.0 j;
      arrival = record {
        delayed = d.1.1.0.0 j;
        delay = d.1.1.0.1.0 j;
        timed = d.1.1.0.1.1.0 j;
        time = d.1.1.0.1.1.1 j;
      };
      departure = record {
        delayed = d.1.1.1.0 j;
        delay = d.1.1.1.1.0 j;
        timed = d.1.1.1.1.1.0 j;
        time = d.1.1.1.1.1.1 j;
      };
    } in
    none ∙ of_broken no_stop (λ m. stop_numbers_of (stop_update m)) stop_time_update c.args.u.now
    (sym c.is_whole.ensures ∙ c.if-is_whole.false)
