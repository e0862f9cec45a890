-- `alerts_views::words` meets its contract. The invariant: the first translation of the strings that are left is that
-- of all. Assumes nothing.
use Rattle.realtime_views.specs.Laws.Turns.{walks, there, less}
use Rattle.alerts_views.proofs.Wording.{wording, strings_of, wordless, wording_on, worded}
use Rattle.alerts_views.proofs.Wording.{first_there}
use Rattle.alerts_views.proofs.words.Goals as goal

pub loop-i-init : goal.loop-i-init
loop-i-init c =
    let a = c.args in
    wording a.message.now a.start a.len a.k c.requires.len_in_bounds c.merged_items-walk.ensures

pub next_item-found-requires : goal.next_item-found-requires
next_item-found-requires c = walks c.loop-i.invariant c.part.ensures

pub returns-in_default : goal.returns-in_default
returns-in_default c =
    wordless c.loop-i.invariant c.requires.worded c.part.ensures
    (strings_of c.loop-i.invariant c.requires.worded c.part.ensures c.next_item-found.ensures)
    c.in_default.is

pub first_item-requires : goal.first_item-requires
first_item-requires c =
    there c.loop-i.invariant c.part.ensures
    (strings_of c.loop-i.invariant c.requires.worded c.part.ensures c.next_item-found.ensures)
    c.in-At.is

pub text_of-requires : goal.text_of-requires
text_of-requires c = first_there c.first_item.ensures c.in-At-first_item.is

pub returns-in-At-first_item : goal.returns-in-At-first_item
returns-in-At-first_item c =
    worded c.loop-i.invariant c.requires.worded c.part.ensures
    (strings_of c.loop-i.invariant c.requires.worded c.part.ensures c.next_item-found.ensures)
    c.in-At.is c.first_item.ensures c.in-At-first_item.is
    c.text_of.ensures

pub loop-i-smaller : goal.loop-i-smaller
loop-i-smaller c =
    less c.loop-i.invariant c.part.ensures
    (strings_of c.loop-i.invariant c.requires.worded c.part.ensures c.next_item-found.ensures)
    c.in-At.is

pub loop-i-preserved : goal.loop-i-preserved
loop-i-preserved c =
    wording_on c.loop-i.invariant c.requires.worded c.part.ensures
    (strings_of c.loop-i.invariant c.requires.worded c.part.ensures c.next_item-found.ensures)
    c.in-At.is c.first_item.ensures c.in-Done.is
