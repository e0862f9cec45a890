-- `realtime_read::judge` meets its contract: each field is a turn of `next`, and is judged with what came before.
use native.Mathlib.Omega.{arith}
use mathlib.Core.Path.{refl}
use Rattle.wire.specs.Laws.At.{key_broken, skipped_read, skipped_broken}
use Rattle.realtime.specs.Schema.{feed}
use Rattle.realtime_read.proofs.Turn.{is_unlisted, is_number, is_text, is_message, at_end, key_bad, value_bad, less, pass}
use Rattle.realtime_read.proofs.Turn.{no_number, no_text, no_message, some_number, some_text, some_message}
use Rattle.realtime_read.proofs.Judging.{ends, breaks, passes, more_number, more_text, more_message, key_here, part_less}
use Rattle.realtime_read.proofs.+judge.Goals as goal

pub returns-in_default : goal.returns-in_default
returns-in_default t c =
    breaks c.loop-at.invariant (key_bad refl c.loop-at-test.true (key_broken _ c.loop-at.at c.in_default.ensures))

pub returns-in_default-past : goal.returns-in_default-past
returns-in_default-past t c =
    breaks c.loop-at.invariant (value_bad (key_here c.loop-at-test.true c.in-Some.ensures)
    (skipped_broken c.args.s.now c.in-Some.next.at _ _ 16 c.in_default-past.ensures))

pub loop-at-smaller-in-Unlisted : goal.loop-at-smaller-in-Unlisted
loop-at-smaller-in-Unlisted t c =
    less (key_here {σ = feed} {t = c.args.message} c.loop-at-test.true c.in-Some.ensures) _ _
    (skipped_read c.args.s.now c.in-Some.next.at _ _ 16 _ c.in-Some-past.ensures).1

pub loop-at-preserved-in-Unlisted : goal.loop-at-preserved-in-Unlisted
loop-at-preserved-in-Unlisted t c =
    passes c.loop-at.invariant (pass (key_here c.loop-at-test.true c.in-Some.ensures) _ _
    (skipped_read c.args.s.now c.in-Some.next.at _ _ 16 _ c.in-Some-past.ensures).1
    (is_unlisted _ c.in-Unlisted.ensures)).0

pub returns-in_default-number_behind : goal.returns-in_default-number_behind
returns-in_default-number_behind t c =
    breaks c.loop-at.invariant
    (no_number (key_here c.loop-at-test.true c.in-Some.ensures) (is_number _ c.in-Number.ensures)
    c.in_default-number_behind.ensures)

pub returns-in_default-text_behind : goal.returns-in_default-text_behind
returns-in_default-text_behind t c =
    breaks c.loop-at.invariant
    (no_text (key_here c.loop-at-test.true c.in-Some.ensures) (is_text _ c.in-Text.ensures)
    c.in_default-text_behind.ensures)

pub returns-in_default-text_behind-2 : goal.returns-in_default-text_behind-2
returns-in_default-text_behind-2 t c =
    breaks c.loop-at.invariant
    (no_message (key_here c.loop-at-test.true c.in-Some.ensures) (is_message _ _ c.in-Message.ensures)
    c.in_default-text_behind-2.ensures)

pub loop-at-smaller-in-Number : goal.loop-at-smaller-in-Number
loop-at-smaller-in-Number t c =
    omega (
      arith,
      (some_number (key_here {σ = feed} {t = c.args.message} c.loop-at-test.true c.in-Some.ensures)
          (is_number _ c.in-Number.ensures)
          c.in-Some-number_behind.ensures).forward,
    )

pub loop-at-preserved-in-Number : goal.loop-at-preserved-in-Number
loop-at-preserved-in-Number t c =
    more_number c.loop-at.invariant
    (some_number (key_here c.loop-at-test.true c.in-Some.ensures) (is_number _ c.in-Number.ensures)
    c.in-Some-number_behind.ensures)
    c.judge_number.ensures c.worse-worst.ensures

pub part-requires : goal.part-requires
part-requires t c =
    omega (
      arith,
      (some_text (key_here {σ = feed} {t = c.args.message} c.loop-at-test.true c.in-Some.ensures)
          (is_text _ c.in-Text.ensures)
          c.in-Some-text_behind.ensures).forward,
    )

pub loop-at-smaller-in-Text : goal.loop-at-smaller-in-Text
loop-at-smaller-in-Text t c =
    omega (
      arith,
      (some_text (key_here {σ = feed} {t = c.args.message} c.loop-at-test.true c.in-Some.ensures)
          (is_text _ c.in-Text.ensures)
          c.in-Some-text_behind.ensures).forward,
    )

pub loop-at-preserved-in-Text : goal.loop-at-preserved-in-Text
loop-at-preserved-in-Text t c =
    more_text c.loop-at.invariant
    (some_text (key_here c.loop-at-test.true c.in-Some.ensures) (is_text _ c.in-Text.ensures)
    c.in-Some-text_behind.ensures)
    c.part.ensures c.judge_text.ensures c.worse-worst-in-Text.ensures

pub part-requires-in-Message : goal.part-requires-in-Message
part-requires-in-Message t c =
    omega (
      arith,
      (some_message (key_here {σ = feed} {t = c.args.message} c.loop-at-test.true c.in-Some.ensures)
          (is_message _ _ c.in-Message.ensures)
          c.in-Some-text_behind-2.ensures).forward,
    )

pub judge-requires : goal.judge-requires
judge-requires t c = (
  omega (
    arith,
    c.decreases,
    part_less _ c.part-in-Message.ensures
        (some_message (key_here {σ = feed} {t = c.args.message} c.loop-at-test.true c.in-Some.ensures)
        (is_message _ _ c.in-Message.ensures)
        c.in-Some-text_behind-2.ensures).forward,
  ),
  tt,
)

pub loop-at-smaller : goal.loop-at-smaller
loop-at-smaller t c =
    omega (
      arith,
      (some_message (key_here {σ = feed} {t = c.args.message} c.loop-at-test.true c.in-Some.ensures)
          (is_message _ _ c.in-Message.ensures)
          c.in-Some-text_behind-2.ensures).forward,
    )

pub loop-at-preserved : goal.loop-at-preserved
loop-at-preserved t c =
    more_message c.loop-at.invariant
    (some_message (key_here c.loop-at-test.true c.in-Some.ensures) (is_message _ _ c.in-Message.ensures)
    c.in-Some-text_behind-2.ensures)
    c.part-in-Message.ensures c.judge.ensures c.worse-worst-in-Message.ensures

pub returns : goal.returns
returns t c = ends c.loop-at.invariant (at_end refl c.loop-at-test.false)
