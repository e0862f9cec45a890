-- Promise. What is last in a stop_time_update, field by field, as the code keeps it: in plain words.
use Rattle.std.specs.Prelude.{ℕ, ◌+◌, ◌≤◌, ◌≡◌, refl, List, [], Bool, ◌||◌, eqb, take, drop, Option, Some, None, ℤ}
use Rattle.std.proofs.Math.Option.{Option as LogicOption, none, some}
use Rattle.std.proofs.Common.{arith}
use Rattle.realtime.specs.Tree.{a_number}
use Rattle.realtime.specs.Schema.{feed, stop_time_update, stop_time_event}
use Rattle.realtime_views.specs.Promises.Fold.{inside}
use Rattle.realtime_views.specs.Promises.Last.{Single, taking}
use Rattle.realtime_views.specs.Laws.Reading.{front_part}
use Rattle.realtime_views.specs.Promises.Reading.{Lens, Reads}
use Rattle.realtime.specs.Typed.{uint32, int32, int64, enum}
use Rattle.realtime_views.specs.declared.TextPart.{TextPart}
use Rattle.realtime_views.specs.declared.Event.{Event}
use Rattle.realtime_views.specs.declared.StopUpdate.{StopUpdate}
use Rattle.realtime_views.specs.declared.EventNumbers.{EventNumbers}

-- answers without a position, and the place of a text
abbrev pub plain : {D B : Type 0} → (D → B) → Lens D B
plain f = record { look = λ s d. f d; In = λ n d. Unit {0}; far = λ n m d h l. tt; front = λ s n d h l. refl }

pub spans_far : (n m : ℕ) (p : TextPart) → n ≤ m → p.start + p.len ≤ n → p.start + p.len ≤ m
spans_far n m p h l = omega arith

abbrev pub spans : Lens TextPart (List ℕ)
spans = record {
  look = λ s p. take p.len (drop p.start s);
  In = λ n p. p.start + p.len ≤ n;
  far = spans_far;
  front = λ s n p h l. front_part s n p.start p.len l h;
}

-- a number, 0 where it is absent; a text, empty where it is absent; a number that may be absent
abbrev pub or_zero_at : ℕ → Single ℕ
or_zero_at k = record { field = k; number = λ n. n; text = λ x. 0 }

abbrev pub single_text : ℕ → Single (List ℕ)
single_text k = record { field = k; number = λ n. []; text = λ x. x }

abbrev pub single_number : ℕ → Single (LogicOption ℕ)
single_number k = record { field = k; number = some; text = λ x. none }

-- stop_sequence 1, stop_id 4, schedule_relationship 5; of an event: delay 1, time 2
abbrev pub sequence : Single ℕ
sequence = or_zero_at 1

abbrev pub stop : Single (List ℕ)
stop = single_text 4

abbrev pub relationship : Single ℕ
relationship = or_zero_at 5

abbrev pub delay : Single (LogicOption ℕ)
delay = single_number 1

abbrev pub time : Single (LogicOption ℕ)
time = single_number 2

-- a number that may be absent
abbrev pub value_of : Option ℕ → LogicOption ℕ
value_of (Some n) = some n
value_of None = none

abbrev pub no_number : Option ℕ
no_number = None

abbrev pub no_numbers : EventNumbers
no_numbers = record { delay = no_number; time = no_number }

abbrev pub no_span : TextPart
no_span = record { start = 0; len = 0 }

-- the typed answers
abbrev pub from_delay : Option ℕ → Option ℤ
from_delay (Some n) = Some (int32 n)
from_delay None = None

abbrev pub from_time : Option ℕ → Option ℤ
from_time (Some n) = Some (int64 n)
from_time None = None

abbrev pub from_event : EventNumbers → Event
from_event e = record { delay = from_delay e.delay; time = from_time e.time }

abbrev pub from_stop : ℕ → TextPart → ℕ → EventNumbers → EventNumbers → StopUpdate
from_stop q p k a d =
    record { sequence = uint32 q; stop = p; arrival = from_event a; departure = from_event d; skipped = eqb (enum k) 1 }

-- THE ANSWER r for an event from `from` on, over b
pub record EventReads (s : List ℕ) (from : ℕ) (b r : EventNumbers) : Type 0 where
  pub delay : Reads (plain value_of) (taking delay) feed stop_time_event s from b.delay r.delay
  pub time : Reads (plain value_of) (taking time) feed stop_time_event s from b.time r.time

-- for the events at field j of a stop_time_update
pub record EventsRead (j : ℕ) (s : List ℕ) (from : ℕ) (r : EventNumbers) : Type 0 where
  pub delay : Reads (plain value_of) (inside j (taking delay)) feed stop_time_update s from no_number r.delay
  pub time : Reads (plain value_of) (inside j (taking time)) feed stop_time_update s from no_number r.time

-- for a number at field k of a message of type t
abbrev pub NumberReads : List ℕ → ℕ → ℕ → ℕ → ℕ → Type 0
NumberReads s from t k r = Reads (plain (λ n. n)) (taking (or_zero_at k)) feed t s from 0 r

-- in every type that lists it as a number
abbrev pub LastNumber : ℕ → List ℕ → ℕ → ℕ → Type 0
LastNumber k s from r = (t : ℕ) → feed t k ≡ some a_number → NumberReads s from t k r

-- the keys of its messages and of its text, a byte each
abbrev pub is_part : ℕ → Bool
is_part b = eqb b 18 || (eqb b 26 || eqb b 34)

-- for a stop_time_update: its arrivals are 2, its departures 3
pub record StopReads (s : List ℕ) (from : ℕ) (r : StopUpdate) : Type 0 where
  pub q : ℕ
  pub p : TextPart
  pub k : ℕ
  pub a : EventNumbers
  pub d : EventNumbers
  pub is : r ≡ from_stop q p k a d
  pub sequence : NumberReads s from stop_time_update 1 q
  pub stop : Reads spans (taking stop) feed stop_time_update s from no_span p
  pub relationship : NumberReads s from stop_time_update 5 k
  pub arrival : EventsRead 2 s from a
  pub departure : EventsRead 3 s from d
