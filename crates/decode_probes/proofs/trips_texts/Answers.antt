-- `decode_probes::trips_texts` meets its contract. Assumes nothing.
use mathlib.Core.Path.{sym, ◌∙◌}
use mathlib.Core.Bool.{false}
use Rattle.realtime.specs.Schema.{feed_entity}
use Rattle.realtime.specs.Views.{trip}
use Rattle.decode_probes.specs.Answers.{texts_are}
use Rattle.decode_probes.proofs.Reading.{of_whole_holds, of_broken, all_of, texts_read}
use Rattle.decode_probes.proofs.trips_texts.Goals as goal

pub returns-then-is_whole : goal.returns-then-is_whole
returns-then-is_whole c =
    let a = c.args in
    of_whole_holds false (λ m. texts_are (trip m) a.time.now a.date.now a.route.now) feed_entity a.e.now
    (sym c.is_whole.ensures ∙ c.if-is_whole.true)
    (λ m e. texts_read a.e.now a.time.now a.date.now a.route.now c.trip_of-t.result
    c.reads.ensures c.reads-then-is_whole.ensures c.reads-then-is_whole-2.ensures
    (c.trip_of-t.ensures.of m (all_of feed_entity a.e.now e)))

pub returns : goal.returns
returns c =
    let a = c.args in
    of_broken false (λ m. texts_are (trip m) a.time.now a.date.now a.route.now) feed_entity a.e.now
    (sym c.is_whole.ensures ∙ c.if-is_whole.false)
