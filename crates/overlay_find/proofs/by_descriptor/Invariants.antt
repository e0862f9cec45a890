-- `overlay_find::by_descriptor`: the trips that were looked at have another descriptor.
use Rattle.overlay_find.specs.Laws.Looks.{Scanning}
use Rattle.overlay_find.specs.Promises.Texts.{descriptor_test}
use Rattle.overlay_find.proofs.by_descriptor.Given as goal

abbrev pub invariant-loop-i : goal.invariant-loop-i
invariant-loop-i l =
    Scanning (descriptor_test l.feed l.leg l.direction l.date) l.old l.noted l.r l.n l.i
