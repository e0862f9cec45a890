-- `decode_updates::updates_of`: what is left of the updates, noted over those so far. Assumes nothing.
use native.Mathlib.Omega.{arith}
use Rattle.realtime_views.specs.Laws.Turns.{walks, there, less}
use Rattle.decode_updates.proofs.Listing.{listing, listed, lists_on, lists_many}
use Rattle.decode_updates.proofs.updates_of.Goals as goal

pub loop-at-init : goal.loop-at-init
loop-at-init c = (
  listing c.args.message.now c.args.start c.args.len c.requires.len_in_bounds.0 c.requires.updates_len
      c.merged_items-walk.ensures,
  omega arith,
)

pub part-requires : goal.part-requires
part-requires c = omega (arith, c.requires.len_in_bounds.0)

pub next_update-requires : goal.next_update-requires
next_update-requires c = walks c.loop-at.invariant.0.walked c.part.ensures

pub shape_of-updates : goal.shape_of-updates
shape_of-updates c = omega (arith, c.loop-at.invariant.0.lined.long, c.requires.updates_len)

pub returns : goal.returns
returns c =
    listed c.loop-at.invariant.0 c.part.ensures c.next_update.ensures
    c.in_default.is c.loop-at.invariant.1

pub sequence_at-sequence-requires : goal.sequence_at-sequence-requires
sequence_at-sequence-requires c =
    there c.loop-at.invariant.0.walked c.part.ensures c.next_update.ensures
    c.in-At.is

pub overflow_cast-at : goal.overflow_cast-at
overflow_cast-at c =
    omega (
      arith,
      there c.loop-at.invariant.0.walked c.part.ensures c.next_update.ensures
          c.in-At.is,
      c.requires.len_in_bounds.1,
    )

pub overflow_add-at : goal.overflow_add-at
overflow_add-at c =
    omega (
      arith,
      there c.loop-at.invariant.0.walked c.part.ensures c.next_update.ensures
          c.in-At.is,
      c.requires.len_in_bounds.1,
    )

pub overflow_cast-at-in-At : goal.overflow_cast-at-in-At
overflow_cast-at-in-At c =
    omega (
      arith,
      there c.loop-at.invariant.0.walked c.part.ensures c.next_update.ensures
          c.in-At.is,
      c.requires.len_in_bounds.1,
    )

pub note-n-requires-clause-lined : goal.note-n-requires-clause-lined
note-n-requires-clause-lined c = c.loop-at.invariant.0.lined

pub note-n-requires-clause-n_le_most_updates : goal.note-n-requires-clause-n_le_most_updates
note-n-requires-clause-n_le_most_updates c = c.loop-at.invariant.1

pub shape_of-updates-then-n-gt-MOST_UPDATES : goal.shape_of-updates-then-n-gt-MOST_UPDATES
shape_of-updates-then-n-gt-MOST_UPDATES c = omega (arith, c.note-n.ensures.lined.long, c.requires.updates_len)

pub returns-then-n-gt-MOST_UPDATES : goal.returns-then-n-gt-MOST_UPDATES
returns-then-n-gt-MOST_UPDATES c =
    lists_many (lists_on c.loop-at.invariant.0 c.part.ensures c.next_update.ensures
    c.in-At.is c.sequence_at-sequence.ensures c.note-n.ensures) c.if-n-gt-MOST_UPDATES.true

pub loop-at-smaller : goal.loop-at-smaller
loop-at-smaller c =
    less c.loop-at.invariant.0.walked c.part.ensures c.next_update.ensures
    c.in-At.is

pub loop-at-preserved : goal.loop-at-preserved
loop-at-preserved c = (
  lists_on c.loop-at.invariant.0 c.part.ensures c.next_update.ensures
      c.in-At.is c.sequence_at-sequence.ensures c.note-n.ensures,
  c.if-n-gt-MOST_UPDATES.false,
)
