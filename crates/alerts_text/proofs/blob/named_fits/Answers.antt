-- `alerts_text::blob::named_fits` meets its contract.
use borrow.Author.Rules.{rules}
use Rattle.alerts_text.proofs.Folding.{short_room, name_start, name_room, named_fits}
use Rattle.alerts_text.proofs.blob.named_fits.Goals as goal

pub write-e-requires : goal.write-e-requires
write-e-requires c = search (short_room)

pub ok_at-requires : goal.ok_at-requires
ok_at-requires c =
    let room = c.requires.1 in (
      search rules,
      name_start room c.write_both-n.ensures c.write-e.ensures,
      name_room room c.write_both-n.ensures c.write-e.ensures,
    )

pub returns : goal.returns
returns c = search (named_fits)
