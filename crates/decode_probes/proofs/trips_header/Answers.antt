-- `decode_probes::trips_header` meets its contract. Assumes nothing.
use mathlib.Core.Path.{◌≡◌, sym, ap, ◌∙◌}
use Rattle.realtime.specs.Schema.{feed_message}
use Rattle.realtime.specs.Views.{header}
use Rattle.decode_probes.specs.Answers.{header_numbers, no_header}
use Rattle.decode_probes.proofs.Reading.{of_whole_holds, of_broken}
use Rattle.decode_probes.proofs.trips_header.Goals as goal

pub returns-then-is_whole : goal.returns-then-is_whole
returns-then-is_whole c =
    of_whole_holds no_header (λ m. header_numbers (header m)) feed_message c.args.s.now
    (sym c.is_whole.ensures ∙ c.if-is_whole.true)
    (λ m e. c.header_numbers.ensures ∙ ap header_numbers (c.header_of.ensures.of m e))

pub returns : goal.returns
returns c =
    let d = c.default.ensures in
    let none : c.default.result ≡ no_header = λ j. record {
      differential = d.0 j;
      timed = d.1.0 j;
      timestamp = d.1.1 j;
    } in
    none ∙ of_broken no_header (λ m. header_numbers (header m)) feed_message c.args.s.now
    (sym c.is_whole.ensures ∙ c.if-is_whole.false)
