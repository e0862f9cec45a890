-- `write` meets its contract.
use Rattle.vehicle_place.proofs.Laws
use borrow.Author.Rules.{rules}
use mir.Syntax.{w64}
use mir.Val.{SFits}
use Rattle.vehicle_place.proofs.write.Goals as goal

pub returns : goal.returns
returns c =
    let f : SFits w64 c.args.v.updated = search rules in
    Laws.place_out
    c.args.v
    c.to_bits-latitude.ensures c.to_bits-longitude.ensures f
    c.optional_float-w1.ensures c.optional_float-w2.ensures
    c.optional_signed.ensures
