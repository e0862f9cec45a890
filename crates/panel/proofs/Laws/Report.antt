-- Law. A report keeps what every call has to.
use Rattle.std.specs.Prelude.{◌≡◌, refl, List, [], ℕ, ◌≤◌, ℤ, length}
use Rattle.std.proofs.Common.{inl, inr, arith}
use Rattle.basics.specs.Options.{Maybe}
use Rattle.overlay.specs.State.{State, timestamp_of}
use Rattle.overlay.specs.Change.{feed_at}
use Rattle.overlay.specs.Report as report
use Rattle.panel.specs.Report.{report_asks, report_rule}
use Rattle.panel.proofs.Laws.Lawful.{Lawful, due_is}

stamped_long : (m : Maybe ℤ) → length (report.stamped m) ≡ 9
stamped_long (inl x) = refl
stamped_long (inr z) = refl

report_long : (f : List ℕ) (s : State) → length (report.report f s) ≤ 25
unfolding report.report
report_long f s = omega (arith, stamped_long (timestamp_of (feed_at f s)))

pub report_lawful : (f : List ℕ) (out : ℕ) → Lawful (report_rule f out)
unfolding report_asks
report_lawful f out = record {
  ordered = λ L old. (refl, (refl, λ s. (refl, tt)));
  right = λ L old bk h one s d five.
      record { short = rw (due_is L old out 25 [] [] one) (report_long f s); does = tt };
}
