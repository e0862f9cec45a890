-- Law. A fresh call keeps what every call has to.
use Rattle.std.specs.Prelude.{refl, ℕ, eqb, length}
use Rattle.std.proofs.Common.{arith, eqb-true, leb-true}
use Rattle.basics.specs.Laws.Booleans.{both_true}
use Rattle.formats.specs.Format.{write}
use Rattle.overlay.specs.State.{overlay, no_state}
use Rattle.overlay.specs.Image.{room}
use Rattle.overlay.specs.Valid.{valid, within, Held}
use Rattle.overlay.specs.Records.{shown}
use Rattle.panel.specs.Fresh.{fresh_asks, fresh_rule}
use Rattle.panel.proofs.Laws.Lawful.{Lawful}

pub empty_held : Held no_state
unfolding valid within
empty_held = record { fits = (tt, (omega arith, (omega arith, tt))); valid = refl }

pub fresh_lawful : (new : ℕ) → Lawful (fresh_rule new)
unfolding fresh_asks shown room
fresh_lawful new = record {
  ordered = λ L old. (refl, tt);
  right = λ L old bk h one.
      let y = both_true (eqb new L.overlay) (room new no_state) one in
      record {
        short = leb-true (length (write overlay no_state)) new y.1;
        does = record {
          long = eqb-true new L.overlay y.0;
          state = no_state;
          wrote = refl;
          held = empty_held;
          same = refl;
        };
      };
}
