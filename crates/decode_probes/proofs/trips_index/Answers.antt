-- `decode_probes::trips_index` meets its contract. Assumes nothing.
use mathlib.Core.Path.{sym, ◌∙◌}
use native.Mathlib.Omega.{arith}
use lib.ListN.{length}
use Rattle.decode_slots.specs.Index.{index}
use Rattle.decode_slots.specs.Places.{held}
use Rattle.decode_probes.proofs.Asking.{ready}
use Rattle.decode_probes.proofs.Outcomes.{answers_refused, answers_many}
use Rattle.decode_probes.proofs.Outcomes.{answers_trips}
use Rattle.decode_slots.specs.Promises.Index.{Lent}
use Rattle.decode_probes.proofs.trips_index.Goals as goal

pub returns-then-q-ne0 : goal.returns-then-q-ne0
returns-then-q-ne0 c =
    let a = c.args in
    answers_refused (length a.keys.now) (length a.marks.now) (length a.order.now)
    a.feed.now a.s.now a.old.now
    c.first_question-q.ensures
    (λ n. held a.s.now a.old.now (index a.keys.now a.marks.now a.order.now n))
    c.if-q-ne0.true

pub leave-requires-clause-lent : goal.leave-requires-clause-lent
leave-requires-clause-lent c =
    let a = c.args in
    let R = ready (length a.keys.now) (length a.marks.now) (length a.order.now)
    a.feed.now a.s.now a.old.now
    (sym c.first_question-q.ensures ∙ c.if-q-ne0.false) in
    let L : Lent a.keys.now a.marks.now a.order.now
    = record { keyed = R.keyed; marked = R.marked; ordered = R.ordered } in
    L

pub leave-requires-clause-feed_len_bound : goal.leave-requires-clause-feed_len_bound
leave-requires-clause-feed_len_bound c =
    let a = c.args in
    let R = ready (length a.keys.now) (length a.marks.now) (length a.order.now)
    a.feed.now a.s.now a.old.now
    (sym c.first_question-q.ensures ∙ c.if-q-ne0.false) in
    (R.brief, R.small)

pub leave-requires-clause-judged_message : goal.leave-requires-clause-judged_message
leave-requires-clause-judged_message c =
    let a = c.args in
    let R = ready (length a.keys.now) (length a.marks.now) (length a.order.now)
    a.feed.now a.s.now a.old.now
    (sym c.first_question-q.ensures ∙ c.if-q-ne0.false) in
    R.judged

pub leave-requires-clause-old : goal.leave-requires-clause-old
leave-requires-clause-old c =
    let a = c.args in
    let R = ready (length a.keys.now) (length a.marks.now) (length a.order.now)
    a.feed.now a.s.now a.old.now
    (sym c.first_question-q.ensures ∙ c.if-q-ne0.false) in
    R.standing.old

pub overflow_add-result : goal.overflow_add-result
overflow_add-result c =
    record {
      fits = omega (
        arith,
        (c.leave.ensures.sound c.in-Ok.is).counted,
      );
    }

pub returns-in-Err : goal.returns-in-Err
returns-in-Err c =
    let a = c.args in
    answers_many (length a.keys.now) (length a.marks.now) (length a.order.now)
    a.feed.now a.s.now a.old.now
    c.first_question-q.ensures c.if-q-ne0.false c.leave.ensures c.in-Err.field-0 c.in-Err.is

pub returns-in-Ok : goal.returns-in-Ok
returns-in-Ok c =
    let a = c.args in
    answers_trips (length a.keys.now) (length a.marks.now) (length a.order.now)
    a.feed.now a.s.now a.old.now
    c.first_question-q.ensures c.if-q-ne0.false c.leave.ensures
    c.in-Ok.n c.in-Ok.is
