-- `told` meets its contract.
use Rattle.journey_leg.specs.Laws.Leg.{all_told}
use borrow.Author.Rules.{rules}
use mir.Syntax.{w32, w64}
use mir.Val.{SFits}
use Rattle.journey_leg.proofs.told.Goals as goal

pub returns : goal.returns
returns c =
    let d = c.args.d in
    let a = c.args.a in
    let f : SFits w64 d.time = search rules in
    let g : SFits w64 a.time = search rules in
    let i : SFits w32 d.delay = search rules in
    let j : SFits w32 a.delay = search rules in
    all_told d a f g i j (record {
      sfits = c.wide.type_inv;
    }) (record { sfits = c.wide-2.type_inv })
    c.wide.ensures c.wide-2.ensures
    c.optional_signed-w1.ensures c.optional_signed-w2.ensures c.optional_signed-w3.ensures c.optional_signed.ensures
