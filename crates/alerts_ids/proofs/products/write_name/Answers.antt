-- `alerts_ids::products::write_name` meets its contract. The invariant: the first i bytes of the name are written.
use Rattle.std.proofs.Common.{◌≡◌, ◌∙◌, refl, arith, length}
use Rattle.std.proofs.lemmas.List.Edits.{paste_all}
use Rattle.alerts_ids.specs.Laws.Products.{wrote}
use Rattle.alerts_ids.proofs.products.write_name.Goals as goal

pub returns : goal.returns
returns c =
    let name = c.args.name.now in
    let old = c.args.out.now in
    let e : c.loop-i.i ≡ length name = omega arith in
    wrote name old _ c.requires (c.loop-i.invariant ∙ rw e (paste_all old 0 name (length name) refl))
