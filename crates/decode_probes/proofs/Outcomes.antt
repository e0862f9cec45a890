-- The answers that stand for an outcome. Assumes nothing.
use Prim.Native.Nat.{ℕ, zero, suc, ◌+◌, ◌-◌, ◌≤◌}
use mathlib.Core.Path.{◌≡◌, refl, sym, ap, ◌∙◌}
use mathlib.Core.Bool.{Bool, true, false, cond}
use mathlib.Core.List.{List, []}
use native.Mathlib.Omega.{arith}
use lib.Dec.{leb}
use lib.ListN.{length}
use borrow.Author.Tests.{lt-ltb, le-ltb}
use Rattle.realtime.specs.Tree.{tree}
use Rattle.realtime.specs.Schema.{feed_message}
use Rattle.realtime.specs.Schema as schema
use Rattle.realtime.specs.Judge.{asked, rules}
use Rattle.realtime.specs.declared.Verdict.{Verdict}
use Rattle.decode_slots.specs.Index.{index}
use Rattle.maps.specs.Map.{puts}
use Rattle.maps.specs.Order.{texts}
use Rattle.decode.specs.Leaves.{Trips, leaves}
use Rattle.decode_slots.specs.Places.{held}
use Rattle.decode_index.specs.Message.{message_tree}
use Rattle.decode_index.specs.Leaving.{leaving}
use Rattle.decode_index.specs.Promises.Leaving.{Leaves, view_left}
use Rattle.decode_index.specs.declared.TooMany.{TooMany}
use Rattle.std.specs.Prelude.{Result, Ok, Err}
use Rattle.decode_probes.specs.Answers.{question_of}
use Rattle.decode_probes.specs.Indexing.{IndexOutcome, refused, left, answered, are_old, judged_question}
use Rattle.decode_probes.specs.Indexing.{message_question, old_trips, outcome, question, seven_of, sized}
use Rattle.decode_probes.specs.Indexing.{unless_asked}
use Rattle.decode_probes.proofs.Asking.{ready}

cond_few : (b : Bool) (m n : ℕ) → m ≤ 6 → n ≤ 6 → cond b m n ≤ 6
cond_few true m n h k = h
cond_few false m n h k = k

judged_few : (b : Bool) (v : Verdict) → judged_question b (question_of v) ≤ 6
judged_few true Verdict.Fine = omega arith
judged_few true Verdict.Broken = omega arith
judged_few true Verdict.Text = omega arith
judged_few true Verdict.Time = omega arith
judged_few false Verdict.Fine = omega arith
judged_few false Verdict.Broken = omega arith
judged_few false Verdict.Text = omega arith
judged_few false Verdict.Time = omega arith

unless_asked_holds : (q : ℕ) (x : IndexOutcome Trips) → (q ≡ 0 → ⊥) → refused q ≡ unless_asked q x
unless_asked_holds zero x n = absurd (n refl)
unless_asked_holds (suc q) x n = refl

-- of working slices of these lengths, a feed's id, a message and old trips
module _ (keys marks order : ℕ) (feed s o : List ℕ) where
  question_few : question (sized keys marks order) feed s o ≤ 6
  question_few =
      let v = asked rules feed_message (tree schema.feed feed_message s) in
      cond_few (sized keys marks order) (cond (are_old o) (message_question feed s) 2) 1
      (cond_few (are_old o) (message_question feed s) 2
      (cond_few (leb (length s) 1048576) (judged_question (leb (length feed) 16) (question_of v)) 3
      (judged_few (leb (length feed) 16) v) (omega arith)) (omega arith)) (omega arith)

  module _ {q : ℕ} (e : q ≡ question (sized keys marks order) feed s o) where
    -- A QUESTION has the answer no
    pub answers_refused : (t : ℕ → Trips) → (q ≡ 0 → ⊥)
        → answered t q ≡ outcome (sized keys marks order) feed s o
    answers_refused t n =
        let x = seven_of (leaving (leaves feed (message_tree s) (puts texts (old_trips o) []))) in
        ap (λ b. cond b (refused q) (left (t (q - 16)))) (lt-ltb q 16 (omega (arith, question_few)))
        ∙ unless_asked_holds q x n ∙ ap (λ q. unless_asked q x) e

    -- NONE HAS: what the index says is what the message leaves
    module _ (z : q ≡ 0) {keys' marks' order' : List ℕ} {r : Result (ℕ × ℕ) TooMany}
        (L : Leaves feed s o 0 keys' marks' order' r) where
      answers_left : (l : Result (ℕ × ℕ) TooMany) → r ≡ l
          → seven_of (view_left (λ n. held s o (index keys' marks' order' n)) l) ≡ outcome
          (sized keys marks order) feed s o
      answers_left l g =
          let x = seven_of (leaving (leaves feed (message_tree s) (puts texts (old_trips o) []))) in
          let S = (ready keys marks order feed s o (sym e ∙ z)).standing in
          ap seven_of (ap (view_left (λ n. held s o (index keys' marks' order' n))) (sym g)
          ∙ L.of (old_trips o) S.end S.here) ∙ (λ j. unless_asked ((sym z ∙ e) j) x)

      pub answers_many : (x : TooMany) → r ≡ Err x → refused 7 ≡ outcome (sized keys marks order) feed s o
      answers_many TooMany.Trips g = answers_left (Err TooMany.Trips) g
      answers_many TooMany.Updates g = answers_left (Err TooMany.Updates) g

      pub answers_trips : (n : ℕ) {next : ℕ} → r ≡ Ok (n, next)
          → answered (λ n. held s o (index keys' marks' order' n)) (16 + n) ≡ outcome (sized keys marks order)
          feed s o
      answers_trips n {next} g =
          let i : 16 + n - 16 ≡ n = omega arith in
          (λ j. cond (le-ltb (16 + n) 16 (omega arith) j) (refused (16 + n))
          (left (held s o (index keys' marks' order' (i j))))) ∙ answers_left (Ok (n, next)) g
