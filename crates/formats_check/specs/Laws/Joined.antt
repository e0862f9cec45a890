-- Law. Tests that are joined, joined the other way.
use Rattle.std.specs.Prelude.{◌≡◌, refl, Bool, true, false, ◌&&◌}

pub shuffle : (a b c d : Bool) → ((a && b) && (c && d)) ≡ ((c && a) && (b && d))
shuffle true b true d = refl
shuffle true true false d = refl
shuffle true false false d = refl
shuffle false b true d = refl
shuffle false b false d = refl
