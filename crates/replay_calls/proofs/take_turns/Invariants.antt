-- `take_turns`: the calls behind `at` are done, and the buffers are as long as they were.
use lib.ListN.{length}
use mathlib.Core.Path.{◌≡◌, refl}
use borrow.Author.Rules.{rules}
use native.Mathlib.Omega.{arith}
use Rattle.replay_turn.specs.Lent.{lent_to}
use Rattle.panel.specs.Lengths.{sized}
use Rattle.replay_turn.specs.Promises.Turns.{current}
use Rattle.replay_calls.specs.Laws.Replay.{Taken, no_turns, lent_as, one_turn, turns_full, turns_done}
use Rattle.replay_calls.proofs.take_turns.Given as goal

abbrev pub invariant-loop-left : goal.invariant-loop-left
invariant-loop-left l =
    Taken (sized l.n)
    (lent_to l.lent (length l.initial.out) (length l.initial.keys) (length l.initial.marks) (length l.initial.order))
    l.s l.start l.count l.at l.left
    l.initial.out l.out l.p (current l.n l.first l.a l.b)
    × (length l.a ≡ length l.initial.a) × (length l.b ≡ length l.initial.b) × (length l.out ≡ length l.initial.out)
    × (length l.keys ≡ length l.initial.keys)
    × (length l.marks ≡ length l.initial.marks) × (length l.order ≡ length l.initial.order)

abbrev pub decreases-loop-left : goal.decreases-loop-left
decreases-loop-left l = l.left
