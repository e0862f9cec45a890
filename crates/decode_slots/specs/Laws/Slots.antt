-- Law. How many entries an index holds: as many as its slots in use.
use Rattle.std.specs.Prelude.{ℕ, suc, ◌≡◌, refl, List, [], ◌∷◌, length, take}
use Rattle.std.proofs.Common.{ap, ◌∙◌, arith, length-take-le}
use Rattle.decode_slots.specs.Index.{slotted, index}
use Rattle.decode_slots.specs.Promises.Index.{SoundIndex, Lent}

pub slotted_length : (keys marks l : List ℕ) → length (slotted keys marks l) ≡ length l
slotted_length keys marks [] = refl
slotted_length keys marks (j ∷ l) = ap suc (slotted_length keys marks l)

pub index_length : (keys marks order : List ℕ) (n : ℕ) → SoundIndex keys marks order n
    → length (index keys marks order n) ≡ n
index_length keys marks order n S =
    slotted_length keys marks (take n order) ∙ length-take-le n order (omega (arith, S.ordered, S.counted))

-- NO SLOT IS IN USE: the lengths are all that is asked
pub sound_none : {keys marks order : List ℕ} → Lent keys marks order → SoundIndex keys marks order 0
sound_none L = record {
  counted = omega arith;
  ordered = L.ordered;
  marked = L.marked;
  keyed = L.keyed;
  slots = tt;
  lengths = λ j h. absurd (omega arith);
  ascends = refl;
}
