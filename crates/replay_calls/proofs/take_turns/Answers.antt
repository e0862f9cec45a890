-- `take_turns`: the calls behind `at` are done, and the buffers are as long as they were.
use lib.ListN.{length}
use mathlib.Core.Path.{◌≡◌, refl}
use borrow.Author.Rules.{rules}
use native.Mathlib.Omega.{arith}
use Rattle.replay_turn.specs.Lent.{lent_to}
use Rattle.panel.specs.Lengths.{sized}
use Rattle.replay_turn.specs.Promises.Turns.{current}
use Rattle.replay_calls.specs.Laws.Replay.{Taken, no_turns, lent_as, one_turn, turns_full, turns_done}
use Rattle.replay_calls.proofs.take_turns.Goals as goal

pub loop-left-init : goal.loop-left-init
loop-left-init c = (no_turns c.requires.a_value, refl, refl, refl, refl, refl, refl)

pub take_turn-r-requires : goal.take_turn-r-requires
take_turn-r-requires c = (
  omega (arith, c.requires.overlays.first, c.loop-left.invariant.1),
  omega (arith, c.requires.overlays.second, c.loop-left.invariant.2),
  c.requires.overlays.room,
  c.requires.overlays.most,
)

pub returns-in_default : goal.returns-in_default
returns-in_default c =
    let inv = c.loop-left.invariant in
    turns_full inv.0 c.loop-left-test.true (lent_as inv.3 inv.4 inv.5 inv.6)
    c.take_turn-r.ensures c.requires.overlays.room refl (search rules)
    c.in_default.is

pub loop-left-preserved : goal.loop-left-preserved
loop-left-preserved c =
    let inv = c.loop-left.invariant in (
      one_turn inv.0 c.loop-left-test.true (lent_as inv.3 inv.4 inv.5 inv.6)
          c.take_turn-r.ensures c.in-Some.is,
      search rules,
      search rules,
      search rules,
      search rules,
      search rules,
      search rules,
    )

pub returns : goal.returns
returns c = turns_done c.loop-left.invariant.0 c.loop-left-test.false c.requires.overlays.room refl
