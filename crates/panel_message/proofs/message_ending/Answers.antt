-- `panel_message::message_ending` meets its contract.
use lib.ListN.{length}
use borrow.Author.Rules.{rules}
use mathlib.Core.Path.{refl, sym, ◌∙◌}
use Rattle.overlay_open.specs.Laws.Held.{open_at, open_no}
use Rattle.panel_message.specs.Laws.Message.{passed, fine, feed_short, message_short}
use Rattle.panel_message.specs.Laws.Message.{lends, message_unsized, no_state, asked_no, message_ends}
use Rattle.panel_message.proofs.message_ending.Goals as goal

pub returns-then-not-same_lengths : goal.returns-then-not-same_lengths
returns-then-not-same_lengths c =
    message_unsized c.same_lengths.ensures c.if-not-same_lengths.true

pub returns-in_default : goal.returns-in_default
returns-in_default c =
    no_state c.same_lengths.ensures c.if-not-same_lengths.false
    (open_no c.args.old.now c.«open».ensures c.in_default.is)

pub returns-then-number-ne0 : goal.returns-then-number-ne0
returns-then-number-ne0 c =
    asked_no c.same_lengths.ensures c.if-not-same_lengths.false
    (open_at c.«open».ensures c.in-Some.is) c.message_number-number.ensures c.if-number-ne0.true

pub after_message-requires-clause-lent : goal.after_message-requires-clause-lent
after_message-requires-clause-lent c =
    let a = c.args in
    let L =
    lends a.n a.old.now (length a.new.now) a.keys.now a.marks.now a.order.now
    c.same_lengths.ensures c.if-not-same_lengths.false c.requires in
    L.buffers

pub after_message-requires-clause-feed_len_bound : goal.after_message-requires-clause-feed_len_bound
after_message-requires-clause-feed_len_bound c =
    let a = c.args in
    let P = passed a.feed.now a.message.now (sym c.if-number-ne0.false ∙ c.message_number-number.ensures) in
    (feed_short P, message_short P)

pub after_message-requires-clause-judged_message : goal.after_message-requires-clause-judged_message
after_message-requires-clause-judged_message c =
    let a = c.args in
    let P = passed a.feed.now a.message.now (sym c.if-number-ne0.false ∙ c.message_number-number.ensures) in
    fine P

pub after_message-requires-clause-fact : goal.after_message-requires-clause-fact
after_message-requires-clause-fact c =
    let a = c.args in
    let L =
    lends a.n a.old.now (length a.new.now) a.keys.now a.marks.now a.order.now
    c.same_lengths.ensures c.if-not-same_lengths.false c.requires in
    (open_at c.«open».ensures c.in-Some.is, L.short)

pub returns : goal.returns
returns c =
    let a = c.args in
    message_ends c.same_lengths.ensures c.if-not-same_lengths.false
    (open_at c.«open».ensures c.in-Some.is)
    (passed a.feed.now a.message.now (sym c.if-number-ne0.false ∙ c.message_number-number.ensures)) refl
    c.after_message.ensures c.of_put.ensures
