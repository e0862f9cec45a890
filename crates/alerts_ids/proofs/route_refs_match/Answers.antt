-- `alerts_ids::route_refs_match` meets its contract.
use Rattle.alerts_ids.specs.Laws.Names.{no_leg, none_informed, refs_same, refs_leg_plain}
use Rattle.alerts_ids.specs.Laws.Names.{refs_informed_plain, refs_coded}
use Rattle.alerts_ids.specs.Laws.Names.{code_forward, code_within}
use native.Mathlib.Omega.{arith}
use Rattle.alerts_ids.proofs.route_refs_match.Goals as goal

pub returns-then-leg-eq0 : goal.returns-then-leg-eq0
returns-then-leg-eq0 c = search (no_leg)

pub returns-then-informed-eq0 : goal.returns-then-informed-eq0
returns-then-informed-eq0 c = search (none_informed)

pub returns-then-same : goal.returns-then-same
returns-then-same c = search (refs_same)

pub returns-in_default : goal.returns-in_default
returns-in_default c = search (refs_leg_plain)

pub returns-in_default-product_code_token : goal.returns-in_default-product_code_token
returns-in_default-product_code_token c = search (refs_informed_plain)

pub slice_bounds-same_ignoring_case-count : goal.slice_bounds-same_ignoring_case-count
slice_bounds-same_ignoring_case-count c =
    let coded = c.product_code_token.ensures in
    omega (arith, code_forward coded c.in-Some.is)

pub slice_bounds-same_ignoring_case-start : goal.slice_bounds-same_ignoring_case-start
slice_bounds-same_ignoring_case-start c =
    let coded = c.product_code_token.ensures in
    omega (arith, code_forward coded c.in-Some.is, code_within coded c.in-Some.is)

pub slice_bounds-same_ignoring_case-end : goal.slice_bounds-same_ignoring_case-end
slice_bounds-same_ignoring_case-end c =
    let coded = c.product_code_token.ensures in
    omega (arith, code_forward coded c.in-Some.is, code_within coded c.in-Some.is)

pub slice_bounds-same_ignoring_case-count-2 : goal.slice_bounds-same_ignoring_case-count-2
slice_bounds-same_ignoring_case-count-2 c =
    let coded = c.product_code_token-2.ensures in
    omega (arith, code_forward coded c.in-Some-product_code_token.is)

pub slice_bounds-same_ignoring_case-start-2 : goal.slice_bounds-same_ignoring_case-start-2
slice_bounds-same_ignoring_case-start-2 c =
    let coded = c.product_code_token-2.ensures in
    omega (arith, code_forward coded c.in-Some-product_code_token.is, code_within coded c.in-Some-product_code_token.is)

pub slice_bounds-same_ignoring_case-end-2 : goal.slice_bounds-same_ignoring_case-end-2
slice_bounds-same_ignoring_case-end-2 c =
    let coded = c.product_code_token-2.ensures in
    omega (arith, code_forward coded c.in-Some-product_code_token.is, code_within coded c.in-Some-product_code_token.is)

pub returns : goal.returns
returns c = search (refs_coded)
