-- Law. None is not some.
use Rattle.std.specs.Prelude.{◌≡◌}
use Rattle.std.proofs.Math.Option.{none, some}

-- taking a reader's outcome apart
pub none_some : {A : Type 0} {C : Type 0} {a : A} → none ≡ some a → C
none_some e = absurd cc
