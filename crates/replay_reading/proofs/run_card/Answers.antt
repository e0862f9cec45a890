-- `run_card` meets its contract: the lengths of parts are those that were asked for.
use lib.Seq.{length-take-le}
use mathlib.Core.Path.{sym}
use borrow.Author.Rules.{rules}
use Rattle.replay_reading.specs.Laws.Card.{card_run}
use Rattle.replay_reading.proofs.run_card.Goals as goal

pub slice_bounds-card-end-2 : goal.slice_bounds-card-end-2
slice_bounds-card-end-2 c =
    sym (length-take-le c.args.w.candidates c.args.candidates.now c.requires.card_fits.candidates)

pub slice_bounds-card-end-4 : goal.slice_bounds-card-end-4
slice_bounds-card-end-4 c = sym (length-take-le c.args.w.met c.args.met.now c.requires.card_fits.met)

pub slice_bounds-card-end-6 : goal.slice_bounds-card-end-6
slice_bounds-card-end-6 c = sym (length-take-le c.args.w.noted c.args.noted.now c.requires.card_fits.noted)

pub slice_bounds-card-end-8 : goal.slice_bounds-card-end-8
slice_bounds-card-end-8 c = sym (length-take-le c.args.w.known c.args.known.now c.requires.card_fits.known)

pub returns : goal.returns
returns c =
    card_run c.args.w c.args.candidates.now c.args.met.now c.args.noted.now
    c.args.known.now c.requires.card_fits c.card.ensures
