-- Law. Events by what is told of them: one for each way out of the code.
use Rattle.std.specs.Option.{option_or}
use Rattle.std.specs.Prelude.{◌≡◌, refl, Bool, true, ℤ, pos, ◌+ℤ◌, ◌-ℤ◌, Option, Some, None}
use Rattle.std.proofs.Common.{ap, ◌∙◌, SFits, to_z, of_z, to_z-of_z}
use Rattle.std.specs.Int.{w32, w64}
use Rattle.basics.specs.Integers.{wrap32}
use Rattle.basics.specs.Options.{or_other}
use Rattle.formats_write.specs.Promises.Given.{given_signed}
use Rattle.journey.specs.Times as times
use Rattle.journey_times.specs.Promises.Realtime.{realtime_of, given_delay, event_by}
use Rattle.journey_times.specs.declared.EventTimes.{EventTimes}
use Rattle.journey_times.specs.declared.StopRealtime.{StopRealtime}

-- a signed local holds bits: the record that the code makes
abbrev pub made : ℤ → ℤ → Bool → StopRealtime
made t d b = record { time = to_z w64 (of_z w64 t); delay = to_z w32 (of_z w32 d); has = b }

module _ {at : ℤ} (f : SFits w64 at) (told : Bool) {d : Option ℤ} where
  pub no_delay : d ≡ None
      → realtime_of (record { time = to_z w64 (of_z w64 at); delay = pos 0; has = told })
      ≡ times.delayed at told (given_delay d)
  no_delay e = rw (to_z-of_z f, e) refl

  pub a_delay : {z x : ℤ} → SFits w32 z → SFits w64 x → d ≡ Some z
      → x ≡ to_z w64 (of_z w64 at) +ℤ to_z w32 (of_z w32 z)
      → realtime_of (made x z true) ≡ times.delayed at told (given_delay d)
  a_delay g h e k = rw (to_z-of_z h, k, to_z-of_z f, to_z-of_z g, e) refl

module _ {at : ℤ} (f : SFits w64 at) (r : StopRealtime) {t : Option ℤ} where
  pub no_time : t ≡ None → realtime_of r ≡ times.timed at (given_signed t) (realtime_of r)
  no_time e = rw e refl

  pub a_time : {z x : ℤ} → SFits w64 z → SFits w32 x → t ≡ Some z
      → x ≡ wrap32 (to_z w64 (of_z w64 z) -ℤ to_z w64 (of_z w64 at))
      → realtime_of (made z x true) ≡ times.timed at (given_signed t) (realtime_of r)
  a_time g h e k = rw (to_z-of_z h, k, to_z-of_z f, to_z-of_z g, e) refl

delay_or : (a b : Option ℤ) → given_delay (option_or a b) ≡ or_other (given_delay a) (given_delay b)
delay_or None b = refl
delay_or (Some x) b = refl

time_or : (a b : Option ℤ) → given_signed (option_or a b) ≡ or_other (given_signed a) (given_signed b)
time_or None b = refl
time_or (Some x) b = refl

-- the first given of the times, and of the delays of event, other event and trip
pub told_by : {at : ℤ} (f : SFits w64 at) (own other : EventTimes) (trip : Option ℤ) (t : Option ℤ)
    (d e : Option ℤ) (x y : StopRealtime)
    → given_delay d ≡ or_other (given_delay own.delay) (given_delay other.delay)
    → given_delay e ≡ or_other (given_delay d) (given_delay trip)
    → given_signed t ≡ or_other (given_signed own.time) (given_signed other.time)
    → realtime_of x ≡ times.delayed (to_z w64 (of_z w64 at)) true (given_delay e)
    → realtime_of y ≡ times.timed (to_z w64 (of_z w64 at)) (given_signed t) (realtime_of x)
    → realtime_of y ≡ event_by at own other trip
told_by {at} f own other trip t d e x y i j k l m =
    m ∙ rw (to_z-of_z f, k, l, to_z-of_z f, j, i) refl

pub told_or : {at : ℤ} (f : SFits w64 at) (own other : EventTimes) (trip : Option ℤ) (t : Option ℤ)
    (d e : Option ℤ) (x y : StopRealtime)
    → d ≡ option_or own.delay other.delay → e ≡ option_or d trip → t ≡ option_or own.time other.time
    → realtime_of x ≡ times.delayed (to_z w64 (of_z w64 at)) true (given_delay e)
    → realtime_of y ≡ times.timed (to_z w64 (of_z w64 at)) (given_signed t) (realtime_of x)
    → realtime_of y ≡ event_by at own other trip
told_or f own other trip t d e x y i j k l m =
    told_by f own other trip t d e x y (ap given_delay i ∙ delay_or own.delay other.delay)
    (ap given_delay j ∙ delay_or d trip) (ap given_signed k ∙ time_or own.time other.time) l m
