-- `replay_writing::run_message` meets its contract.
use Rattle.panel.specs.Lengths.{sized}
use mathlib.Core.Path.{sym}
use lib.Seq.{length-take-le}
use Rattle.replay_writing.specs.Laws.Ran.{message_run}
use borrow.Author.Rules.{rules}
use Rattle.replay_writing.proofs.run_message.Goals as goal

pub slice_bounds-message-end-4 : goal.slice_bounds-message-end-4
slice_bounds-message-end-4 c = sym (length-take-le c.args.q.out c.args.new.now c.requires.fits.overlay)

pub slice_bounds-message-end-6 : goal.slice_bounds-message-end-6
slice_bounds-message-end-6 c = sym (length-take-le c.args.w.keys c.args.keys.now c.requires.fits.keys)

pub slice_bounds-message-end-8 : goal.slice_bounds-message-end-8
slice_bounds-message-end-8 c = sym (length-take-le c.args.w.marks c.args.marks.now c.requires.fits.marks)

pub slice_bounds-message-end-10 : goal.slice_bounds-message-end-10
slice_bounds-message-end-10 c = sym (length-take-le c.args.w.order c.args.order.now c.requires.fits.order)

pub returns : goal.returns
returns c =
    message_run c.args.n (sized c.args.n) c.args.old.now c.args.s.now c.args.new.now c.args.q c.requires.sound
    c.args.keys.now c.args.marks.now c.args.order.now c.requires.fits c.message.ensures
