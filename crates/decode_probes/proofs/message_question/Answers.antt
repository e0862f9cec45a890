-- `decode_probes::message_question` meets its contract. Assumes nothing.
use Rattle.decode_probes.proofs.Asking.{question_long, question_broken, question_feed, question_else}
use Rattle.decode_probes.proofs.message_question.Goals as goal

pub returns-then-s-gt-MOST_MESSAGE : goal.returns-then-s-gt-MOST_MESSAGE
returns-then-s-gt-MOST_MESSAGE c =
    let a = c.args in
    question_long a.feed.now a.s.now c.if-s-gt-MOST_MESSAGE.true

pub returns-then-q-eq4 : goal.returns-then-q-eq4
returns-then-q-eq4 c =
    let a = c.args in
    question_broken a.feed.now a.s.now c.if-s-gt-MOST_MESSAGE.false c.trips_judge-q.ensures
    c.if-q-eq4.true

pub returns-then-feed-gt-MOST_FEED : goal.returns-then-feed-gt-MOST_FEED
returns-then-feed-gt-MOST_FEED c =
    let a = c.args in
    question_feed a.feed.now a.s.now c.if-s-gt-MOST_MESSAGE.false c.trips_judge-q.ensures
    c.if-q-eq4.false c.if-feed-gt-MOST_FEED.true

pub returns : goal.returns
returns c =
    let a = c.args in
    question_else a.feed.now a.s.now c.if-s-gt-MOST_MESSAGE.false c.trips_judge-q.ensures
    c.if-q-eq4.false c.if-feed-gt-MOST_FEED.false
