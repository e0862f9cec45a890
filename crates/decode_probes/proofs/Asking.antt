-- What the questions ask, and what follows where none has the answer no. Assumes nothing.
use Prim.Native.Nat.{ℕ, suc, ◌≤◌, ◌<◌}
use mathlib.Core.Path.{◌≡◌, refl, sym, ◌∙◌}
use mathlib.Core.Bool.{Bool, true, false, ◌&&◌, cond}
use mathlib.Core.List.{List, [], ◌∷◌}
use mathlib.Core.Option.{Option, none, some}
use native.Mathlib.Omega.{arith}
use lib.Dec.{eqb, leb}
use lib.ListN.{length}
use borrow.Author.Tests.{eqb-true, leb-true, le-leb, le-ltb, lt-leb, ne_eqb}
use Rattle.basics.specs.Lists.{All, all}
use Rattle.formats.specs.Class.{in_class, printable}
use Rattle.formats.specs.Format.{small, list, ◌&◌, optional, read}
use Rattle.formats_judge.specs.Judged.{first_failing, judged, judge_to, ok, verdict}
use Rattle.formats_read.specs.Promises.Here.{Here, here}
use Rattle.realtime.specs.Tree.{tree}
use Rattle.realtime.specs.Schema.{feed_message}
use Rattle.realtime.specs.Schema as schema
use Rattle.realtime.specs.Judge.{asked, rules}
use Rattle.realtime.specs.declared.Verdict.{Verdict}
use Rattle.decode.specs.Trip.{Trip, date, delay, direction_of, id, number32, stop_update, time, trip, trip_entry}
use Rattle.decode.specs.Trip.{updates_of}
use Rattle.basics.specs.Laws.Booleans.{both_true}
use Rattle.decode.specs.Leaves.{Trips}
use Rattle.decode_slots.specs.Places.{crowded}
use Rattle.decode_index.specs.Promises.Message.{JudgedMessage}
use Rattle.decode_index.specs.Promises.Leaving.{Old}
use Rattle.decode_probes.specs.Answers.{question_of}
use Rattle.decode_probes.specs.Indexing.{are_old, judged_question, message_question, old_trips, question, sized}
use Rattle.decode_probes.specs.Indexing.{trips_read, unfailed}

first_zero : (a b c : Bool) → first_failing a b c ≡ 0 → (a ≡ true) × (c ≡ true)
first_zero true true true e = (refl, refl)
first_zero true true false e = absurd (omega arith)
first_zero true false c e = absurd (omega arith)
first_zero false b c e = absurd (omega arith)

false_true : {C : Type 0} → false ≡ true → C
false_true e = absurd (let z : ◌≡◌ {A = ℕ} 0 1 = cc in omega arith)

-- a record within question 7 has at most 128 updates
few_updates : (t : Trip) → ok 7 trip t ≡ true → crowded t ≡ false
few_updates t h =
    let a = both_true (ok 7 (optional delay) t.0)
    (ok 7 (small 1 & date & id & optional number32 & time & list 128 (number32 & stop_update)) t.1) h in
    let b = both_true (ok 7 (optional number32) (direction_of t))
    (ok 7 (time & list 128 (number32 & stop_update)) t.1.1.1.1.1) a.1 in
    let c = both_true (leb (length (updates_of t)) 128) (all (ok 7 (number32 & stop_update)) (updates_of t)) b.1 in
    le-ltb 128 (length (updates_of t)) (leb-true (length (updates_of t)) 128 c.0)

calm : (v : Trips) → all (ok 7 trip_entry) v ≡ true → All (λ e. crowded e.1 ≡ false) v
calm [] h = tt
calm (e ∷ v) h =
    let a = both_true (ok 7 trip_entry e) (all (ok 7 trip_entry) v) h in (few_updates e.1 a.0, calm v a.1)

short : (v : Trips) → all (ok 5 trip_entry) v ≡ true → All (λ e. length e.0 ≤ 137) v
short [] h = tt
short (e ∷ v) h =
    let a = both_true (ok 5 trip_entry e) (all (ok 5 trip_entry) v) h in (
      leb-true (length e.0) 137 (both_true (leb (length e.0) 137) (in_class printable e.0)
          (both_true (leb (length e.0) 137 && in_class printable e.0) (ok 5 trip e.1) a.0).0).0,
      short v
          a.1,
    )

-- OLD TRIPS that are within the questions stand there
pub record Standing (o : List ℕ) : Type 0 where
  pub end : ℕ
  pub here : Here (list 2048 trip_entry) o 0 end (old_trips o)
  pub old : Old o 0

unfailed_zero : (o : List ℕ) (x : Option (Trips × List ℕ)) → read (list 2048 trip_entry) o ≡ x
    → unfailed (judged (verdict (list 2048 trip_entry)) o x) ≡ true
    → (end : ℕ) × Here (list 2048 trip_entry) o 0 end (trips_read x)
    × (verdict (list 2048 trip_entry) (trips_read x) ≡ 0)
unfailed_zero o none e u = false_true u
unfailed_zero o (some x) e u = (
  _,
  here (list 2048 trip_entry) o 0 x.0 x.1 (omega arith) e,
  eqb-true (verdict (list 2048 trip_entry) x.0)
      0 u,
)

pub stands : (o : List ℕ) → are_old o ≡ true → Standing o
stands o h =
    let a = both_true (leb (length o) 4000000000) (unfailed (judge_to (list 2048 trip_entry) o 0)) h in
    let x = unfailed_zero o (read (list 2048 trip_entry) o) refl a.1 in
    let z = first_zero (ok 5 (list 2048 trip_entry) (old_trips o)) (ok 6 (list 2048 trip_entry) (old_trips o))
    (ok 7 (list 2048 trip_entry) (old_trips o)) x.2 in
    let m = both_true (leb (length (old_trips o)) 2048) (all (ok 7 trip_entry) (old_trips o)) z.1 in
    record {
      end = x.0;
      here = x.1;
      old = record {
        stands = record {
          trips = old_trips o;
          end = x.0;
          here = x.1;
          few = leb-true (length (old_trips o)) 2048 m.0;
          short = short (old_trips o) z.0;
          small = leb-true (length o) 4000000000 a.0;
        };
        calm = calm (old_trips o) m.1;
      };
    }

-- THE QUESTIONS of a message, one after the other
module _ (feed s : List ℕ) where
  pub question_long : 1048576 < length s → 3 ≡ message_question feed s
  question_long h = rw (lt-leb (length s) 1048576 h) refl

  module _ {q : ℕ} (h : length s ≤ 1048576)
      (e : q ≡ question_of (asked rules feed_message (tree schema.feed feed_message s))) where
    question_judged : judged_question (leb (length feed) 16) q ≡ message_question feed s
    question_judged = λ j. cond (sym (le-leb (length s) 1048576 h) j) (judged_question (leb (length feed) 16) (e j)) 3

    pub question_broken : q ≡ 4 → 4 ≡ message_question feed s
    question_broken z = (λ j. judged_question (leb (length feed) 16) (sym z j)) ∙ question_judged

    pub question_feed : (q ≡ 4 → ⊥) → 16 < length feed → 5 ≡ message_question feed s
    question_feed n l =
        (λ j. cond (sym (ne_eqb q 4 n) j) 4 (cond (sym (lt-leb (length feed) 16 l) j) q 5)) ∙ question_judged

    pub question_else : (q ≡ 4 → ⊥) → length feed ≤ 16 → q ≡ message_question feed s
    question_else n l =
        (λ j. cond (sym (ne_eqb q 4 n) j) 4 (cond (sym (le-leb (length feed) 16 l) j) q 5)) ∙ question_judged

-- what the three working slices, the message and the old trips are where no question has the answer no
pub record Ready (keys marks order : ℕ) (feed s o : List ℕ) : Type 0 where
  pub keyed : keys ≡ 280713
  pub marked : marks ≡ 6147
  pub ordered : order ≡ 2049
  pub brief : length feed ≤ 16
  pub small : length s ≤ 1048576
  pub judged : JudgedMessage s
  pub standing : Standing o

judged_zero : (b : Bool) (v : Verdict) → judged_question b (question_of v) ≡ 0 → (b ≡ true) × (v ≡ Verdict.Fine)
judged_zero true Verdict.Fine e = (refl, refl)
judged_zero true Verdict.Broken e = absurd (omega arith)
judged_zero true Verdict.Text e = absurd (omega arith)
judged_zero true Verdict.Time e = absurd (omega arith)
judged_zero false Verdict.Fine e = absurd (omega arith)
judged_zero false Verdict.Broken e = absurd (omega arith)
judged_zero false Verdict.Text e = absurd (omega arith)
judged_zero false Verdict.Time e = absurd (omega arith)

cond_zero : (b : Bool) (m n : ℕ) → cond b m (suc n) ≡ 0 → (b ≡ true) × (m ≡ 0)
cond_zero true m n e = (refl, e)
cond_zero false m n e = absurd (omega arith)

pub ready : (keys marks order : ℕ) (feed s o : List ℕ)
    → question (sized keys marks order) feed s o ≡ 0 → Ready keys marks order feed s o
ready keys marks order feed s o e =
    let v = asked rules feed_message (tree schema.feed feed_message s) in
    let a = cond_zero (sized keys marks order) (cond (are_old o) (message_question feed s) 2) 0 e in
    let b = cond_zero (are_old o) (message_question feed s) 1 a.1 in
    let c = cond_zero (leb (length s) 1048576) (judged_question (leb (length feed) 16) (question_of v)) 2 b.1 in
    let d = judged_zero (leb (length feed) 16) v c.1 in
    let y = both_true (eqb keys 280713 && eqb marks 6147) (eqb order 2049) a.0 in
    let z = both_true (eqb keys 280713) (eqb marks 6147) y.0 in
    record {
      keyed = eqb-true keys 280713 z.0;
      marked = eqb-true marks 6147 z.1;
      ordered = eqb-true order 2049 y.1;
      brief = leb-true (length feed) 16 d.0;
      small = leb-true (length s) 1048576 c.0;
      judged = d.1;
      standing = stands o b.0;
    }

-- the code's answers
pub old_long : (o : List ℕ) → 4000000000 < length o → false ≡ are_old o
old_long o h = λ j. sym (lt-leb (length o) 4000000000 h) j && unfailed (judge_to (list 2048 trip_entry) o 0)

pub old_judged : (o : List ℕ) {r : Bool} → length o ≤ 4000000000 → r ≡ unfailed (judge_to (list 2048 trip_entry) o 0)
    → r ≡ are_old o
old_judged o l u = u ∙ (λ j. sym (le-leb (length o) 4000000000 l) j && unfailed (judge_to (list 2048 trip_entry) o 0))
