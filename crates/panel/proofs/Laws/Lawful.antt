-- Law. WHAT EVERY CALL'S RULE HAS TO KEEP: its questions stand in the papers' order; what it writes has room in its
-- output; and it is what the book then holds, or tells. All that is claimed of lists of calls follows from this.
use Rattle.std.specs.Prelude.{◌≡◌, refl, true, ◌&&◌, List, ℕ, ◌≤◌, eqb, length}
use Rattle.std.proofs.Math.Option.{Option, some}
use Rattle.std.proofs.Common.{eqb-true, leb-true}
use Rattle.basics.specs.Texts.{same}
use Rattle.basics.specs.Laws.Booleans.{both_true}
use Rattle.formats.specs.Format.{Format, Value, write}
use Rattle.formats_judge.specs.Judged.{ok}
use Rattle.formats_capacity.specs.Laws.Fitting.{Formed}
use Rattle.overlay.specs.State.{State, Feed, overlay}
use Rattle.overlay.specs.Image.{room, state_of}
use Rattle.overlay.specs.Valid.{Held}
use Rattle.overlay.specs.Records.{records_of, shown}
use Rattle.overlay.specs.Change.{feed_at, put_feed}
use Rattle.overlay.proofs.Laws.Within.{formed_of}
use Rattle.overlay.proofs.Laws.Buffer.{state_buffer}
use Rattle.overlay.proofs.Laws.StaysValid.{StateKept, kept_of, held_of}
use Rattle.overlay.proofs.Laws.Shown.{shown_put, shown_at}
use Rattle.panel.specs.Questions.{Lengths, lengths_ok, counts_fit, whole}
use Rattle.panel.specs.Rule.{Book, records_in, enter, if_read, Effect, changes, tells, nothing, Rule}
use Rattle.panel.specs.Answers.{order}
use Rattle.panel.proofs.Laws.Asks.{Always, InOrder}
use Rattle.panel.proofs.Laws.RoundTrips.{whole_round_trips}

-- the book holds what the overlay holds, if that is one
pub record Holds (old : List ℕ) (bk : Book) : Type 0 where
  pub same : (s : State) → state_of old ≡ some s → shown s ≡ bk

-- what is written is a state that the book holds, in a buffer as long as an overlay
pub record Leaves (L : Lengths) (out : ℕ) (bk : Book) (x : List ℕ) : Type 0 where
  pub long : out ≡ L.overlay
  pub state : State
  pub wrote : x ≡ write overlay state
  pub held : Held state
  pub same : shown state ≡ bk

abbrev pub Does : Lengths → ℕ → Effect → Book → List ℕ → Type 0
Does L out (changes e) bk x = Leaves L out (e bk) x
Does L out (tells t) bk x = x ≡ t bk
Does L out nothing bk x = Unit {0}

pub record Right (L : Lengths) (out : ℕ) (e : Effect) (bk : Book) (x : List ℕ) : Type 0 where
  pub short : length x ≤ out
  pub does : Does L out e bk x

pub record Lawful (r : Rule) : Type 0 where
  pub ordered : (L : Lengths) (old : List ℕ) → InOrder order (r.asks L old)
  pub right : (L : Lengths) (old : List ℕ) (bk : Book) → Holds old bk
      → Always (Right L r.out r.does bk) (r.asks L old)

-- ---- for the calls' own proofs

-- question 1 says that the output is as long as is due
pub due_is : (L : Lengths) (old : List ℕ) (out due : ℕ) (work work_due : List ℕ)
    → lengths_ok L old out due work work_due ≡ true → out ≡ due
due_is L old out due work work_due e =
    let q = both_true (eqb (length old) L.overlay) (eqb out due && same work work_due) e in
    eqb-true out due (both_true (eqb out due) (same work work_due) q.1).0

-- the state of an overlay is kept
pub opened_kept : (old : List ℕ) (s : State) → state_of old ≡ some s → StateKept s
opened_kept old s d = kept_of s (state_buffer old s d).held

-- what is read whole is formed
pub whole_formed : (f : Format) (s : List ℕ) (v : Value f) → whole f s ≡ some v → Formed f v
whole_formed f s v e = formed_of f v ((whole_round_trips f).read_was_written s v e).1

-- question 7 is behind a changed state
pub changed_right : {L : Lengths} {out : ℕ} {e : Book → Book} {bk : Book} (s : State) → out ≡ L.overlay
    → StateKept s → shown s ≡ e bk → counts_fit L.overlay s ≡ true → Right L out (changes e) bk (write overlay s)
unfolding room
changed_right {L} s z k h e =
    let y = both_true (ok 7 overlay s) (room L.overlay s) e in
    record {
      short = rw z (leb-true (length (write overlay s)) L.overlay y.1);
      does = record { long = z; state = s; wrote = refl; held = held_of s k y.0; same = h };
    }

-- records are entered in the book of what a state shows
pub entered_put : (f : List ℕ) (F : Feed) (n : ℕ) (s : State)
    → shown (put_feed f F n s) ≡ enter f (records_of F) (shown s)
unfolding enter
entered_put f F n s = λ i g. shown_put f F n s g i

pub records_at : (f : List ℕ) (s : State) → records_in (shown s) f ≡ records_of (feed_at f s)
unfolding records_in
records_at f s = shown_at f s

-- what was read is what is entered
pub read_is : {A B : Type 0} {o : Option A} {v : A} (b : B) (k : A → B) → o ≡ some v → k v ≡ if_read o b k
read_is b k e = rw e refl
