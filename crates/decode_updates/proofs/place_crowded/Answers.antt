-- `decode_updates::place_crowded`: an old record is not asked, nor one that is known. Assumes nothing.
use native.Mathlib.Omega.{arith}
use Rattle.decode_updates.proofs.Crowding.{place_old, place_known, place_reads, place_new}
use borrow.Author.Rules.{rules}
use Rattle.decode_updates.proofs.place_crowded.Goals as goal

pub returns-then-from-ge-BEYOND : goal.returns-then-from-ge-BEYOND
returns-then-from-ge-BEYOND c = search place_old

pub returns-then-to-other_to : goal.returns-then-to-other_to
returns-then-to-other_to c = search place_known

pub overflow_sub-to : goal.overflow_sub-to
overflow_sub-to c =
    (place_reads c.args.message.now c.args.from c.args.to c.requires.readable_new (search rules)).forward

pub is_crowded-requires : goal.is_crowded-requires
is_crowded-requires c =
    let R = place_reads c.args.message.now c.args.from c.args.to c.requires.readable_new (search rules) in
    (omega (arith, R.forward, R.inside), search rules)

pub returns : goal.returns
returns c = search place_new
