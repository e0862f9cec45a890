-- Law. A feed's index has a crowded record where one of the message is: the old ones are not.
use Rattle.std.specs.Prelude.{ℕ, ◌≡◌, Bool, ◌&&◌, ◌||◌, cond}
use Rattle.std.proofs.Math.Path.{refl, sym, ap}
use Rattle.std.proofs.Common.{◌∙◌}
use Rattle.std.proofs.Math.Bool.{true, false}
use mathlib.Core.List.{List, [], ◌∷◌}
use Rattle.basics.specs.Lists.{All}
use Rattle.decode_slots.specs.Index.{slot_place, slotted}
use Rattle.decode_slots.specs.Places.{record_at, old_at, is_new, held, crowded, any_crowded}
use Rattle.decode_updates.specs.Promises.Updates.{crowded_at, crowded_in}

module _ (s o keys marks : List ℕ) where
  pub crowded_held : (slots : List ℕ)
      → All (λ j. is_new (slot_place marks j) ≡ false → crowded (old_at o (slot_place marks j)) ≡ false) slots
      → crowded_in s marks slots ≡ any_crowded (held s o (slotted keys marks slots))
  unfolding crowded_at crowded_in any_crowded held
  crowded_held [] h = refl
  crowded_held (j ∷ l) h = go (is_new (slot_place marks j)) refl (crowded_held l h.1)
    where
      go : (b : Bool) → is_new (slot_place marks j) ≡ b
          → crowded_in s marks l ≡ any_crowded (held s o (slotted keys marks l))
          → (b && crowded (record_at s (slot_place marks j))) || crowded_in s marks l
          ≡ crowded (cond b (record_at s (slot_place marks j)) (old_at o (slot_place marks j))) || any_crowded
          (held s o (slotted keys marks l))
      go true e i = ap (λ y. crowded (record_at s (slot_place marks j)) || y) i
      go false e i = i ∙ sym (ap (λ y. y || any_crowded (held s o (slotted keys marks l))) (h.0 e))
