-- `alerts_text::lines::marked_near` meets its contract.
use Prim.Native.Nat.{◌+◌, ◌-◌}
use lib.ListN.{length}
use native.Mathlib.Omega.{arith}
use Rattle.alerts_text.proofs.Naming.{window_marked, lesser_within}
use Rattle.alerts_text.proofs.lines.marked_near.Goals as goal

pub slice_bounds-marked-count : goal.slice_bounds-marked-count
slice_bounds-marked-count c =
    let a = c.args in
    let b = lesser_within (a.i + a.n + 24) (length a.s.now) (a.i - 48)
    (omega (arith, c.requires)) (omega (arith, c.requires)) in
    omega (arith, c.ahead-e.ensures, c.back-start.ensures, b.0, b.1)

pub slice_bounds-marked-start : goal.slice_bounds-marked-start
slice_bounds-marked-start c =
    let a = c.args in
    let b = lesser_within (a.i + a.n + 24) (length a.s.now) (a.i - 48)
    (omega (arith, c.requires)) (omega (arith, c.requires)) in
    omega (arith, c.ahead-e.ensures, c.back-start.ensures, b.0, b.1)

pub slice_bounds-marked-end : goal.slice_bounds-marked-end
slice_bounds-marked-end c =
    let a = c.args in
    let b = lesser_within (a.i + a.n + 24) (length a.s.now) (a.i - 48)
    (omega (arith, c.requires)) (omega (arith, c.requires)) in
    omega (arith, c.ahead-e.ensures, c.back-start.ensures, b.0, b.1)

pub returns : goal.returns
returns c = search (window_marked)
