-- `formats::pass` and `formats::pass_many` meet their contracts.
use mathlib.Core.Path.{◌≡◌}
use Prim.Native.Nat.{◌+◌, ◌-◌, ◌*◌, ◌≤◌}
use lib.ListN.{length}
use Rattle.formats.specs.Promises.Outcome.{skip_many, format_at}
use Rattle.formats.proofs.+pass_pass_many.Given as goal

abbrev pub decreases-pass : goal.decreases-pass
decreases-pass l = 2 * l.depth

abbrev pub decreases-pass_many : goal.decreases-pass_many
decreases-pass_many l = 2 * l.depth + 1

abbrev pub invariant-pass_many-loop : goal.invariant-pass_many-loop
invariant-pass_many-loop l =
    (l.p ≤ length l.s)
    × (skip_many (format_at l.depth l.t l.node) (l.n - l.counter) l.s l.p
    ≡ skip_many (format_at l.depth l.t l.node) l.n l.s l.at)
