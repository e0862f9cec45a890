-- Law. How many updates a lent slice has.
use Rattle.std.specs.Prelude.{ℕ, zero, suc, ◌≡◌, refl, List, length, drop}
use Rattle.std.proofs.Common.{ap}
use Rattle.decode_updates.specs.Line.{laid}

-- the first n updates of a slice are n
pub laid_length : (n : ℕ) (u : List ℕ) → length (laid n u) ≡ n
laid_length zero u = refl
laid_length (suc n) u = ap suc (laid_length n (drop 3 u))
