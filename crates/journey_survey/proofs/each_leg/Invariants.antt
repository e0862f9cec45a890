-- `each_leg`: the legs behind p are seen.
use Rattle.journey_survey.specs.Laws.Legs.{Walking, lent_kept, sound_none, walk_start, walk_step, walk_stop}
use mathlib.Core.Path.{◌≡◌, refl}
use lib.ListN.{length}
use borrow.Author.Rules.{rules}
use Rattle.journey_survey.proofs.each_leg.Given as goal

abbrev pub invariant-loop-left : goal.invariant-loop-left
invariant-loop-left l =
    (length l.candidates ≡ length l.initial.candidates) × (length l.met ≡ length l.initial.met)
    × (length l.known ≡ length l.initial.known)
    × (length l.froms ≡ length l.initial.froms) × (length l.tos ≡ length l.initial.tos)
    × Walking l.card l.at l.n l.p l.left l.old l.initial.froms l.initial.tos l.initial.c l.froms l.tos l.c l.known

abbrev pub decreases-loop-left : goal.decreases-loop-left
decreases-loop-left l = l.left
