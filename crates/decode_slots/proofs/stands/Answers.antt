-- `decode_slots::stands` looks at the key at rank r. Assumes nothing.
use mathlib.Core.Path.{ap, ◌∙◌}
use Prim.Native.Nat.{◌<◌}
use native.Mathlib.Omega.{arith}
use borrow.Author.Tests.{lt-ltb, le-ltb}
use Rattle.slices.specs.Lists.{lex_of}
use Rattle.maps.specs.Promises.Order.{is_same}
use Rattle.decode_slots.specs.Index.{slot_key}
use Rattle.decode_slots.specs.Promises.Index.{key_in}
use Rattle.decode_slots.proofs.Ranks.{slot_below, eq_is_same}
use Rattle.decode_slots.proofs.stands.Goals as goal

pub returns-else-r-n : goal.returns-else-r-n
returns-else-r-n c = rw (le-ltb c.args.r c.args.n (omega arith))

pub word-requires : goal.word-requires
word-requires c = omega (arith, c.requires.sound_index.ordered)

pub key_order-requires : goal.key_order-requires
key_order-requires c =
    let a = c.args in
    let S = c.requires.sound_index in
    let b = slot_below a.keys.now a.marks.now a.order.now a.n S a.r (omega arith) in
    let j : c.word.result < a.n = omega (arith, c.word.ensures) in
    let l = S.lengths c.word.result j in
    record {
      len_in_bounds = omega (arith, S.keyed);
      slot_in_bounds = omega (arith, S.marked);
      slot_in_bounds_2 = omega (arith, S.keyed);
    }

pub returns-then-r-n : goal.returns-then-r-n
returns-then-r-n c =
    let a = c.args in
    rw (lt-ltb a.r a.n (omega arith))
    (c.is_eq.ensures ∙ eq_is_same c.key_order.result ∙ ap is_same c.key_order.ensures ∙ ap
    (λ j. is_same (lex_of (key_in a.keys.now a.n a.len) (slot_key a.keys.now a.marks.now j)))
    c.word.ensures)
