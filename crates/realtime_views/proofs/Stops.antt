-- A turn of the loops over a stop_time_update and over an event: each field a reading of its own. Assumes nothing.
use Rattle.std.specs.Prelude.{Option, Some, None}
use mathlib.Core.Bool.{cond}
use Prim.Native.Nat.{ℕ, ◌+◌, ◌≤◌, ◌<◌}
use mathlib.Core.Path.{◌≡◌, refl, sym, ap, subst, ◌∙◌}
use mathlib.Core.List.{List}
use mathlib.Core.Option.{none, some}
use native.Mathlib.Omega.{arith}
use lib.ListN.{length, take, drop}
use borrow.Author.Tests.{eq-eqb, ne_eqb}
use Rattle.wire.specs.Promises.Places.{key_at, number_at, skipped_at}
use Rattle.wire.specs.declared.Cursor.{Cursor}
use Rattle.realtime.specs.Tree.{a_number, a_text, a_message, Schema, tree}
use Rattle.realtime.specs.Schema.{field_rows, feed, stop_time_update, stop_time_event}
use Rattle.realtime_read.specs.Laws.Passing.{Passed}
use Rattle.realtime_read.specs.Promises.Steps.{Stepped}
use Rattle.realtime_read.specs.declared.Step.{Step}
use Rattle.realtime_views.specs.Promises.Fold.{inside}
use Rattle.realtime_views.specs.Promises.Reading.{Lens, Reads}
use Rattle.realtime_views.specs.Promises.Last.{Single, taking}
use Rattle.realtime_views.specs.Promises.Numbers.{plain, spans, sequence, stop, relationship, delay, time}
use Rattle.realtime_views.specs.Promises.Numbers.{value_of, no_number, no_span, from_stop, EventReads}
use Rattle.realtime_views.specs.Promises.Numbers.{EventsRead, StopReads}
use Rattle.realtime_views.specs.declared.TextPart.{TextPart}
use Rattle.realtime_views.specs.declared.EventNumbers.{EventNumbers}
use Rattle.realtime_views.specs.declared.StopUpdate.{StopUpdate}
use Rattle.realtime_views.proofs.Reader.{Reading, says, on_number, on_text, past_message, taken, passed}
use Rattle.realtime_views.proofs.Reader.{taking_skips, passes_on, breaks_off, key_breaks, comes_to_end}
use Rattle.realtime_views.proofs.Wires.{keyed, number_none, number_passed, number_step, other_none, other_passed}
use Rattle.realtime_views.proofs.Wires.{past_number}

-- of a field alone
module _ {D B : Type 0} {L : Lens D B} (o : Single B) {σ : Schema} {t : ℕ} {s : List ℕ} {from : ℕ} {d₀ : D} {at : ℕ}
    {d : D} (R : Reading L (taking o) σ t s from d₀ at d) where
  pub mine_number : {f m n : ℕ} {r : D} → Stepped σ t s at (Step.Number f m n) → f ≡ o.field
      → L.look s r ≡ o.number m → L.In n r → Reading L (taking o) σ t s from d₀ n r
  mine_number {f} {m} S e q w =
      on_number R S (q ∙ ap (λ b. cond b (o.number m) (L.look s d)) (sym (eq-eqb f o.field e))) (λ W. w)

  pub other_number : {f m n : ℕ} → Stepped σ t s at (Step.Number f m n) → (f ≡ o.field → ⊥)
      → Reading L (taking o) σ t s from d₀ n d
  other_number {f} {m} S e =
      on_number R S (ap (λ b. cond b (o.number m) (L.look s d)) (sym (ne_eqb f o.field e))) (λ W. W)

  pub mine_text : {f i l n : ℕ} {r : D} → Stepped σ t s at (Step.Text f i l n) → f ≡ o.field
      → L.look s r ≡ o.text (take l (drop i s)) → (i + l ≤ n → L.In n r)
      → Reading L (taking o) σ t s from d₀ n r
  mine_text {f} {i} {l} S e q w =
      on_text R S (q ∙ ap (λ b. cond b (o.text (take l (drop i s))) (L.look s d)) (sym (eq-eqb f o.field e)))
      (λ p W. w p)

  pub other_text : {f i l n : ℕ} → Stepped σ t s at (Step.Text f i l n) → (f ≡ o.field → ⊥)
      → Reading L (taking o) σ t s from d₀ n d
  other_text {f} {i} {l} S e =
      on_text R S (ap (λ b. cond b (o.text (take l (drop i s))) (L.look s d)) (sym (ne_eqb f o.field e)))
      (λ p W. W)

  pub no_message : {f u i l n : ℕ} → Stepped σ t s at (Step.Message f u i l n) → Reading L (taking o) σ t s from d₀ n d
  no_message S = past_message R S (λ m. refl)

-- a field is listed as one kind
clash : (t f k : ℕ) → feed t f ≡ some a_number → feed t k ≡ some a_text → f ≡ k → ⊥
clash t f k p q e = let r : some a_number ≡ some a_text = sym p ∙ ap (feed t) e ∙ q in let z : ◌≡◌ {A = ℕ} 0 1 = cc in
    omega arith

pub sequence_number : (f : ℕ) → feed stop_time_update f ≡ some a_text → f ≡ 1 → ⊥
unfolding feed field_rows
sequence_number f p e = clash stop_time_update 1 f refl p (sym e)

stop_text : (f : ℕ) → feed stop_time_update f ≡ some a_number → f ≡ 4 → ⊥
unfolding feed field_rows
stop_text f p e = clash stop_time_update f 4 p refl e

relationship_number : (f : ℕ) → feed stop_time_update f ≡ some a_text → f ≡ 5 → ⊥
unfolding feed field_rows
relationship_number f p e = clash stop_time_update 5 f refl p (sym e)

typed : (f u k v : ℕ) → feed stop_time_update f ≡ some (a_message u) → feed stop_time_update k ≡ some (a_message v)
    → f ≡ k
    → u ≡ v
typed f u k v p q e = let r : some (a_message u) ≡ some (a_message v) = sym p ∙ ap (feed stop_time_update) e ∙ q in cc

arrival_event : (f u : ℕ) → feed stop_time_update f ≡ some (a_message u) → f ≡ 2 → u ≡ stop_time_event
unfolding feed field_rows
arrival_event f u p e = typed f u 2 stop_time_event p refl e

departure_event : (f u : ℕ) → feed stop_time_update f ≡ some (a_message u) → f ≡ 3 → u ≡ stop_time_event
unfolding feed field_rows
departure_event f u p e = typed f u 3 stop_time_event p refl e

-- the loop over an event, over b
pub record Events (s : List ℕ) (from : ℕ) (b : EventNumbers) (at : ℕ) (e i : Option ℕ) : Type 0 where
  pub delay : Reading (plain value_of) (taking delay) feed stop_time_event s from b.delay at e
  pub time : Reading (plain value_of) (taking time) feed stop_time_event s from b.time at i

module _ {s : List ℕ} {from : ℕ} {b : EventNumbers} {at : ℕ} {e i : Option ℕ} (R : Events s from b at e i) where
  pub event_ends : length s ≤ at → EventReads s from b (record { delay = e; time = i })
  event_ends h = record { delay = comes_to_end R.delay h; time = comes_to_end R.time h }

  event_breaks : tree feed stop_time_event (drop at s) ≡ none → EventReads s from b (record { delay = e; time = i })
  event_breaks h = record { delay = breaks_off R.delay h; time = breaks_off R.time h }

  module _ (h : at < length s) {o : Option (ℕ × ℕ × Cursor)} (k : o ≡ key_at s at) where
    pub event_no_key : o ≡ None → EventReads s from b (record { delay = e; time = i })
    event_no_key g = record { delay = key_breaks R.delay h (sym g ∙ k); time = key_breaks R.time h (sym g ∙ k) }

    module _ {f w : ℕ} {c : Cursor} (g : o ≡ Some (f, w, c)) where
      module _ (z : w ≡ 0) {p : Option (ℕ × Cursor)} (q : p ≡ number_at s c.at) where
        pub event_no_number : p ≡ None → EventReads s from b (record { delay = e; time = i })
        event_no_number r = event_breaks (number_none s h k g z q feed stop_time_event r)

        module _ {m : ℕ} {a : Cursor} (r : p ≡ Some (m, a)) where
          step : feed stop_time_event f ≡ some a_number → Stepped feed stop_time_event s at (Step.Number f m a.at)
          step = number_step s h k g z q r feed stop_time_event

          over : Passed feed stop_time_event s at f a.at
          over = number_passed s h k g z q r feed stop_time_event

          pub event_delay : f ≡ 1 → Events s from b a.at (Some m) i
          unfolding feed field_rows
          event_delay v =
              record {
                delay = mine_number delay R.delay (step (ap (feed stop_time_event) v)) v refl tt;
                time = passes_on R.time over (taking_skips time (λ j. omega arith));
              }

          pub event_time : (f ≡ 1 → ⊥) → f ≡ 2 → Events s from b a.at e (Some m)
          unfolding feed field_rows
          event_time u v =
              record {
                delay = passes_on R.delay over (taking_skips delay u);
                time = mine_number time R.time (step (ap (feed stop_time_event) v)) v refl tt;
              }

          pub event_number : (f ≡ 1 → ⊥) → (f ≡ 2 → ⊥) → Events s from b a.at e i
          event_number u v =
              record {
                delay = passes_on R.delay over (taking_skips delay u);
                time = passes_on R.time over (taking_skips time v);
              }

      module _ (z : w ≡ 0 → ⊥) {p : Option Cursor} (q : p ≡ skipped_at s c.at f w 16) where
        pub event_no_other : p ≡ None → EventReads s from b (record { delay = e; time = i })
        event_no_other r = event_breaks (other_none s h k g q feed stop_time_event r)

        module _ {a : Cursor} (r : p ≡ Some a) where
          beyond : Passed feed stop_time_event s at f a.at
          beyond = other_passed s h k g q r feed stop_time_event

          pub event_other : Events s from b a.at e i
          unfolding feed field_rows
          event_other =
              record {
                delay = past_number delay R.delay h (keyed s h k g) beyond refl z;
                time = past_number time R.time h (keyed s h k g) beyond refl z;
              }

-- the events at field j of a stop_time_update
pub record Within (j : ℕ) (s : List ℕ) (from at : ℕ) (e : EventNumbers) : Type 0 where
  pub delay : Reading (plain value_of) (inside j (taking delay)) feed stop_time_update s from no_number at e.delay
  pub time : Reading (plain value_of) (inside j (taking time)) feed stop_time_update s from no_number at e.time

module _ {j : ℕ} {s : List ℕ} {from at : ℕ} {e : EventNumbers} (R : Within j s from at e) where
  within_ends : Stepped feed stop_time_update s at Step.End → EventsRead j s from e
  within_ends S = record { delay = says R.delay S; time = says R.time S }

  within_number : {f m n : ℕ} → Stepped feed stop_time_update s at (Step.Number f m n) → Within j s from n e
  within_number S = record { delay = on_number R.delay S refl (λ h. h); time = on_number R.time S refl (λ h. h) }

  within_text : {f i l n : ℕ} → Stepped feed stop_time_update s at (Step.Text f i l n) → Within j s from n e
  within_text S = record { delay = on_text R.delay S refl (λ p h. h); time = on_text R.time S refl (λ p h. h) }

  within_passed : {f u i l n : ℕ} → Stepped feed stop_time_update s at (Step.Message f u i l n) → (f ≡ j → ⊥)
      → Within j s from n e
  within_passed S h =
      record { delay = passed j (taking delay) R.delay S h; time = passed j (taking time) R.time S h }

  within_taken : {f u i l n : ℕ} {r : EventNumbers} (x : List ℕ)
      → Stepped feed stop_time_update s at (Step.Message f u i l n) → f ≡ j → u ≡ stop_time_event → x ≡ take n s
      → EventReads x i e r → Within j s from n r
  within_taken {f} {u} {i} {l} {n} {r} x S h g p Q = record {
    delay = taken j (taking delay) R.delay x S h p
        (subst (λ v. Reads (plain value_of) (taking delay) feed v x i e.delay r.delay) (sym g) Q.delay);
    time = taken j (taking time) R.time x S h p
        (subst (λ v. Reads (plain value_of) (taking time) feed v x i e.time r.time) (sym g) Q.time);
  }

-- the loop over a stop_time_update
pub record Stops (s : List ℕ) (from at q : ℕ) (p : TextPart) (k : ℕ) (a d : EventNumbers) : Type 0 where
  pub sequence : Reading (plain (λ n. n)) (taking sequence) feed stop_time_update s from 0 at q
  pub stop : Reading spans (taking stop) feed stop_time_update s from no_span at p
  pub relationship : Reading (plain (λ n. n)) (taking relationship) feed stop_time_update s from 0 at k
  pub arrival : Within 2 s from at a
  pub departure : Within 3 s from at d

module _ {s : List ℕ} {from at q : ℕ} {p : TextPart} {k : ℕ} {a d : EventNumbers} (R : Stops s from at q p k a d) where
  pub stops_end : {r : StopUpdate} → Stepped feed stop_time_update s at Step.End → r ≡ from_stop q p k a d
      → StopReads s from r
  stops_end S e = record {
    q = q;
    p = p;
    k = k;
    a = a;
    d = d;
    is = e;
    sequence = says R.sequence S;
    stop = says R.stop S;
    relationship = says R.relationship S;
    arrival = within_ends R.arrival S;
    departure = within_ends R.departure S;
  }

  module _ {f m n : ℕ} (S : Stepped feed stop_time_update s at (Step.Number f m n)) where
    numbered : {q' k' : ℕ} → Reading (plain (λ n. n)) (taking sequence) feed stop_time_update s from 0 n q'
        → Reading (plain (λ n. n)) (taking relationship) feed stop_time_update s from 0 n k'
        → Stops s from n q' p k' a d
    numbered Q K = record {
      sequence = Q;
      stop = other_number stop R.stop S (stop_text f S.typed);
      relationship = K;
      arrival = within_number R.arrival S;
      departure = within_number R.departure S;
    }

    pub stops_sequence : f ≡ 1 → Stops s from n m p k a d
    stops_sequence h =
        numbered (mine_number sequence R.sequence S h refl tt)
        (other_number relationship R.relationship S (λ g. omega arith))

    pub stops_relationship : f ≡ 5 → Stops s from n q p m a d
    stops_relationship h =
        numbered (other_number sequence R.sequence S (λ g. omega arith))
        (mine_number relationship R.relationship S h refl tt)

    pub stops_number : (f ≡ 1 → ⊥) → (f ≡ 5 → ⊥) → Stops s from n q p k a d
    stops_number h h' =
        numbered (other_number sequence R.sequence S h) (other_number relationship R.relationship S h')

  module _ {f i l n : ℕ} (S : Stepped feed stop_time_update s at (Step.Text f i l n)) where
    texted : {p' : TextPart} → Reading spans (taking stop) feed stop_time_update s from no_span n p'
        → Stops s from n q p' k a d
    texted P = record {
      sequence = other_text sequence R.sequence S (sequence_number f S.typed);
      stop = P;
      relationship = other_text relationship R.relationship S (relationship_number f S.typed);
      arrival = within_text R.arrival S;
      departure = within_text R.departure S;
    }

    pub stops_stop : f ≡ 4 → Stops s from n q (record { start = i; len = l }) k a d
    stops_stop h = texted (mine_text stop R.stop S h refl (λ w. w))

    pub stops_text : (f ≡ 4 → ⊥) → Stops s from n q p k a d
    stops_text h = texted (other_text stop R.stop S h)

  module _ {f u i l n : ℕ} (S : Stepped feed stop_time_update s at (Step.Message f u i l n)) where
    messaged : {a' d' : EventNumbers} → Within 2 s from n a' → Within 3 s from n d' → Stops s from n q p k a' d'
    messaged A D = record {
      sequence = no_message sequence R.sequence S;
      stop = no_message stop R.stop S;
      relationship = no_message relationship R.relationship S;
      arrival = A;
      departure = D;
    }

    pub stops_arrival : {r : EventNumbers} (x : List ℕ) → f ≡ 2 → x ≡ take n s → EventReads x i a r
        → Stops s from n q p k r d
    stops_arrival x h e Q =
        messaged (within_taken R.arrival x S h (arrival_event f u S.typed h) e Q)
        (within_passed R.departure S (λ g. omega arith))

    pub stops_departure : {r : EventNumbers} (x : List ℕ) → f ≡ 3 → x ≡ take n s → EventReads x i d r
        → Stops s from n q p k a r
    stops_departure x h e Q =
        messaged (within_passed R.arrival S (λ g. omega arith))
        (within_taken R.departure x S h (departure_event f u S.typed h) e Q)
