-- Law. A message keeps what every call has to.
use Rattle.std.specs.Prelude.{◌≡◌, refl, List, ℕ}
use Rattle.std.proofs.Common.{sym, ap, ◌∙◌}
use Rattle.basics.specs.Laws.Booleans.{both_true}
use Rattle.realtime.specs.Tree.{Tree}
use Rattle.realtime.specs.Schema.{feed_message}
use Rattle.realtime.specs.Judge.{rules, texts_fine}
use Rattle.decode.specs.Leaves.{leaves}
use Rattle.overlay.specs.State.{State}
use Rattle.overlay.specs.Records.{shown}
use Rattle.overlay.specs.Change.{after_message}
use Rattle.overlay.proofs.Laws.StaysValid.{message_kept}
use Rattle.overlay.proofs.Laws.Entered.{entries_kept, timestamp_kept}
use Rattle.panel.specs.Questions.{feed_ok}
use Rattle.panel.specs.Rule.{enter}
use Rattle.panel.specs.Message.{tree_asks, message_asks, message_enters, message_rule}
use Rattle.panel.proofs.Laws.Lawful.{Lawful, due_is, opened_kept, changed_right, entered_put, records_at, read_is}

tree_shown : (f : List ℕ) (t : Tree) (s : State) → shown (after_message f t s) ≡ message_enters f t (shown s)
unfolding after_message
tree_shown f t s = entered_put f _ _ s
    ∙ ap (λ R. enter f (record { trips = leaves f t R.trips; vehicles = R.vehicles; alerts = R.alerts })
    (shown s)) (sym (records_at f s))

pub message_lawful : (f m : List ℕ) (new : ℕ) (work : List ℕ) → Lawful (message_rule f m new work)
unfolding message_asks tree_asks
message_lawful f m new work = record {
  ordered = λ L old. (refl, (refl, λ s. (refl, (refl, λ t. (refl, (refl, (refl, tt)))))));
  right = λ L old bk h one s d three t is five six.
      let y = both_true (feed_ok f) (texts_fine rules feed_message t) five in
      changed_right (after_message f t s) (due_is L old new L.overlay work L.work.message one)
      (message_kept f t s y.0 (entries_kept f y.0 m t is y.1 six) (timestamp_kept t) (opened_kept old s d))
      (tree_shown f t s ∙ ap (message_enters f t) (h.same s d) ∙ read_is bk (λ t. message_enters f t bk) is);
}
