-- `each_header` meets its contract.
use borrow.Author.Rules.{rules}
use mathlib.Core.Path.{◌≡◌, refl}
use Prim.Native.Nat.{◌-◌, ◌≤◌}
use lib.ListN.{length}
use Rattle.journey_enrich.specs.Promises.Enrich.{HeadersUpTo}
use Rattle.journey_enrich.specs.Laws.Headers.{headers_begin, headers_step, headers_end}
use Rattle.journey_enrich.proofs.each_header.Given as goal

abbrev pub invariant-loop-i : goal.invariant-loop-i
invariant-loop-i l =
    (length l.out ≡ length l.initial.out) × (l.i ≤ l.n)
    × HeadersUpTo l.i l.old l.froms l.tos l.n l.initial.out l.initial.k l.out l.k

abbrev pub decreases-loop-i : goal.decreases-loop-i
decreases-loop-i l = l.n - l.i
