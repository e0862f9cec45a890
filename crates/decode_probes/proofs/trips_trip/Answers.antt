-- `decode_probes::trips_trip` meets its contract. Assumes nothing.
use mathlib.Core.Path.{◌≡◌, sym, ap, ◌∙◌}
use Rattle.realtime.specs.Schema.{feed_entity}
use Rattle.realtime.specs.Views.{trip}
use Rattle.decode_probes.specs.Answers.{trip_numbers_of, no_trip}
use Rattle.decode_probes.proofs.Reading.{of_whole_holds, of_broken, all_of}
use Rattle.decode_probes.proofs.trips_trip.Goals as goal

pub returns-then-is_whole : goal.returns-then-is_whole
returns-then-is_whole c =
    of_whole_holds no_trip (λ m. trip_numbers_of (trip m)) feed_entity c.args.e.now
    (sym c.is_whole.ensures ∙ c.if-is_whole.true)
    (λ m e. c.trip_numbers.ensures ∙ ap trip_numbers_of
    (c.trip_of.ensures.of m (all_of feed_entity c.args.e.now e)))

pub returns : goal.returns
returns c =
    let d = c.default.ensures in
    let none : c.default.result ≡ no_trip = λ j. record {
      cancelled = d.0 j;
      directed = d.1.0 j;
      direction = d.1.1.0 j;
      delayed = d.1.1.1.0 j;
      delay = d.1.1.1.1 j;
    } in
    none ∙ of_broken no_trip (λ m. trip_numbers_of (trip m)) feed_entity c.args.e.now
    (sym c.is_whole.ensures ∙ c.if-is_whole.false)
