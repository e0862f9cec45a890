-- `realtime_read::next` meets its contract: what is known where a key was read, and then by what its field holds.
use Rattle.wire.specs.Laws.At.{key_broken, skipped_read, skipped_broken}
use Rattle.realtime_read.proofs.Turn.{is_unlisted, is_number, is_text, is_message, at_end, key_bad, here, value_bad}
use Rattle.realtime_read.proofs.Turn.{less, pass, no_number, no_text, no_message, some_number, some_text}
use Rattle.realtime_read.proofs.Turn.{some_message}
use Rattle.realtime_read.proofs.next.Goals as goal

pub returns-in_default : goal.returns-in_default
returns-in_default c =
    key_bad c.loop-at.invariant.0 c.loop-at-test.true (key_broken _ c.loop-at.at c.in_default.ensures)

pub returns-in_default-past : goal.returns-in_default-past
returns-in_default-past c =
    value_bad (here c.loop-at.invariant c.loop-at-test.true c.in-Some.ensures)
    (skipped_broken c.args.s.now c.in-Some.next.at _ _ 16 c.in_default-past.ensures)

pub loop-at-smaller : goal.loop-at-smaller
loop-at-smaller c =
    less (here c.loop-at.invariant c.loop-at-test.true c.in-Some.ensures) _ _
    (skipped_read c.args.s.now c.in-Some.next.at _ _ 16 _ c.in-Some-past.ensures).1

pub loop-at-preserved : goal.loop-at-preserved
loop-at-preserved c =
    pass (here c.loop-at.invariant c.loop-at-test.true c.in-Some.ensures) _ _
    (skipped_read c.args.s.now c.in-Some.next.at _ _ 16 _ c.in-Some-past.ensures).1
    (is_unlisted _ c.in-Unlisted.ensures)

pub returns-in_default-number_behind : goal.returns-in_default-number_behind
returns-in_default-number_behind c =
    no_number (here c.loop-at.invariant c.loop-at-test.true c.in-Some.ensures) (is_number _ c.in-Number.ensures)
    c.in_default-number_behind.ensures

pub returns-in-Number : goal.returns-in-Number
returns-in-Number c =
    some_number (here c.loop-at.invariant c.loop-at-test.true c.in-Some.ensures) (is_number _ c.in-Number.ensures)
    c.in-Some-number_behind.ensures

pub returns-in_default-text_behind : goal.returns-in_default-text_behind
returns-in_default-text_behind c =
    no_text (here c.loop-at.invariant c.loop-at-test.true c.in-Some.ensures) (is_text _ c.in-Text.ensures)
    c.in_default-text_behind.ensures

pub returns-in-Text : goal.returns-in-Text
returns-in-Text c =
    some_text (here c.loop-at.invariant c.loop-at-test.true c.in-Some.ensures) (is_text _ c.in-Text.ensures)
    c.in-Some-text_behind.ensures

pub returns-in_default-text_behind-2 : goal.returns-in_default-text_behind-2
returns-in_default-text_behind-2 c =
    no_message (here c.loop-at.invariant c.loop-at-test.true c.in-Some.ensures) (is_message _ _ c.in-Message.ensures)
    c.in_default-text_behind-2.ensures

pub returns-in-Message : goal.returns-in-Message
returns-in-Message c =
    some_message (here c.loop-at.invariant c.loop-at-test.true c.in-Some.ensures) (is_message _ _ c.in-Message.ensures)
    c.in-Some-text_behind-2.ensures

pub returns : goal.returns
returns c = at_end c.loop-at.invariant.0 c.loop-at-test.false
