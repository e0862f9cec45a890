-- `realtime_views::is_deleted` meets its contract, in the bytes up to the entity's end. Assumes nothing.
use mathlib.Core.Path.{refl}
use Rattle.realtime_views.proofs.Typing.{deleted_read}
use Rattle.realtime_views.proofs.is_deleted.Goals as goal

pub returns : goal.returns
returns c =
    let a = c.args in
    deleted_read a.s.now a.start a.len c.requires c.part-entity.ensures
    c.last_number.ensures refl
