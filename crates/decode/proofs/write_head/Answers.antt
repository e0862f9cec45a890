-- `decode::write_head` writes route and direction. Assumes nothing.
use native.Mathlib.Omega.{arith}
use Rattle.decode.specs.Laws.Written.{then, written_whole}
use Rattle.decode.proofs.Writing.{prefixed_short}
use Rattle.decode.proofs.write_head.Goals as goal

pub write_route-b-requires-clause-at_in_bounds : goal.write_route-b-requires-clause-at_in_bounds
write_route-b-requires-clause-at_in_bounds c = (
  omega (arith, c.requires.at_in_bounds, c.add-a.ensures.next, written_whole c.add-a.ensures),
  c.requires.at_in_bounds.1,
)

pub write_route-b-requires-clause-part_inside : goal.write_route-b-requires-clause-part_inside
write_route-b-requires-clause-part_inside c = c.requires.short.route

pub add-c-requires : goal.add-c-requires
add-c-requires c =
    let a = c.args in
    let l = prefixed_short a.feed.now a.message.now a.t.route c.requires.at_in_bounds.1 c.requires.short.route.0
    c.requires.short.route.1 in
    omega (
      arith,
      c.requires.at_in_bounds,
      c.add-a.ensures.next,
      c.write_route-b.ensures.next,
      written_whole c.add-a.ensures,
      written_whole c.write_route-b.ensures,
    )

pub write_direction-requires : goal.write_direction-requires
write_direction-requires c =
    let a = c.args in
    let l = prefixed_short a.feed.now a.message.now a.t.route c.requires.at_in_bounds.1 c.requires.short.route.0
    c.requires.short.route.1 in
    omega (
      arith,
      c.requires.at_in_bounds,
      c.add-a.ensures.next,
      c.write_route-b.ensures.next,
      c.add-c.ensures.next,
      written_whole c.add-a.ensures,
      written_whole
          c.write_route-b.ensures,
      written_whole c.add-c.ensures,
    )

pub shape_of-keys : goal.shape_of-keys
shape_of-keys c =
    written_whole (then (then (then c.add-a.ensures c.write_route-b.ensures)
    c.add-c.ensures) c.write_direction.ensures)

pub returns : goal.returns
returns c =
    then (then (then c.add-a.ensures c.write_route-b.ensures) c.add-c.ensures)
    c.write_direction.ensures
