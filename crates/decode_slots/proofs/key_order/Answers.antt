-- `decode_slots::key_order` meets its contract.
use Rattle.decode_slots.proofs.key_order.Goals as goal

pub returns : goal.returns
returns c = cc
