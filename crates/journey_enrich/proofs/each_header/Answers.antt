-- `each_header` meets its contract.
use borrow.Author.Rules.{rules}
use mathlib.Core.Path.{◌≡◌, refl}
use Prim.Native.Nat.{◌-◌, ◌≤◌}
use lib.ListN.{length}
use Rattle.journey_enrich.specs.Promises.Enrich.{HeadersUpTo}
use Rattle.journey_enrich.specs.Laws.Headers.{headers_begin, headers_step, headers_end}
use Rattle.journey_enrich.proofs.each_header.Goals as goal

pub loop-i-init : goal.loop-i-init
loop-i-init c = (refl, search rules, headers_begin)

pub loop-i-preserved : goal.loop-i-preserved
loop-i-preserved c = (search rules, search rules, search headers_step)

pub shape_of-out : goal.shape_of-out
shape_of-out c = c.loop-i.invariant.0

pub returns : goal.returns
returns c = search headers_end
