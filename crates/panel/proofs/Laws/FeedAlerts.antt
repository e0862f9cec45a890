-- Law. A message's alerts keep what every call has to.
use Rattle.std.specs.Prelude.{refl, List, [], ℕ, length}
use Rattle.std.proofs.Common.{eqb-true, leb-true}
use Rattle.panel.specs.FeedAlerts.{alert_tree_asks, feed_alerts_asks, sheet_by, feed_alerts_rule}
use Rattle.panel.proofs.Laws.Lawful.{Lawful, read_is}

pub feed_alerts_lawful : (f m : List ℕ) (out : ℕ) → Lawful (feed_alerts_rule f m out)
unfolding feed_alerts_asks alert_tree_asks
feed_alerts_lawful f m out = record {
  ordered = λ L old. (refl, (refl, (refl, λ t. (refl, (refl, (refl, tt))))));
  right = λ L old bk h one three t is five seven eight. record {
    short = rw (eqb-true out L.sheet one) (leb-true (length (sheet_by f t)) L.sheet eight);
    does = read_is [] (sheet_by f) is;
  };
}
