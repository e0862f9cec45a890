-- Law. A buffer of 2,626 bytes has room for the texts of an alert within its limits, and a line's name of 64 bytes.
use Rattle.std.specs.Prelude.{List, ℕ, ◌≤◌, length}
use Rattle.std.proofs.Common.{arith}
use Rattle.alerts.specs.Alert.{Alert, header, description, cause, or_empty_text}
use Rattle.alerts.specs.Text.{trim}
use Rattle.alerts_ids.specs.Laws.Ends.{trim_shorter}
use Rattle.alerts_apply.specs.Promises.Hits.{Room}

pub room : (a : Alert) (short : List ℕ) (n : ℕ) → length (or_empty_text (header a)) ≤ 512
    → length (or_empty_text (description a)) ≤ 2048 → length (or_empty_text (cause a)) ≤ 64 → length short ≤ 64
    → 2626 ≤ n
    → Room a (trim short) n
room a short n h d c s l = record { road = omega arith; name = omega (arith, trim_shorter short) }
