-- `decode::write_route` writes a route with the feed in front. Assumes nothing.
use native.Mathlib.Omega.{arith}
use Rattle.decode.specs.Laws.Written.{written_whole}
use Rattle.decode.proofs.Writing.{span_length, joined, routed, unrouted}
use Rattle.decode.proofs.write_route.Goals as goal

pub returns-then-route-eq0 : goal.returns-then-route-eq0
returns-then-route-eq0 c =
    let a = c.args in
    unrouted a.keys.now a.feed.now a.message.now a.at a.route c.if-route-eq0.true (omega arith)

pub add_byte-q-requires : goal.add_byte-q-requires
add_byte-q-requires c =
    omega (arith, c.requires.at_in_bounds, c.add-p.ensures.next, written_whole c.add-p.ensures)

pub part-requires : goal.part-requires
part-requires c = omega (arith, c.requires.part_inside.0)

pub add-requires : goal.add-requires
add-requires c =
    let a = c.args in
    let l = span_length a.message.now c.part.result.now a.route.start a.route.len c.part.ensures
    c.requires.part_inside.0 in
    omega (
      arith,
      c.requires.at_in_bounds,
      c.requires.part_inside.1,
      c.add-p.ensures.next,
      c.add_byte-q.ensures.next,
      written_whole c.add-p.ensures,
      written_whole c.add_byte-q.ensures,
    )

pub shape_of-keys : goal.shape_of-keys
shape_of-keys c = written_whole (joined 58 c.add-p.ensures c.add_byte-q.ensures c.add.ensures)

pub returns : goal.returns
returns c =
    let a = c.args in
    routed a.feed.now a.message.now c.part.result.now a.route c.requires.part_inside.0
    c.if-route-eq0.false c.part.ensures c.add-p.ensures c.add_byte-q.ensures
    c.add.ensures
