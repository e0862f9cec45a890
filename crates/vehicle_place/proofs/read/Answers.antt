-- `read` meets its contract.
use Rattle.vehicle_place.proofs.Laws
use Rattle.vehicle_place.proofs.read.Goals as goal

pub returns : goal.returns
returns c =
    record {
      is =
          λ h k l. Laws.place_is c.from_bits.ensures c.from_bits-2.ensures
          (c.float.ensures _ _ h) (c.float-2.ensures _ _ k)
          (c.signed.ensures _ _ _ _ l) (record { sfits = c.signed.type_inv });
    }
