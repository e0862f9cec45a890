-- Law. The optional values of a record and of an update, one after another.
use Rattle.std.specs.Prelude.{◌≡◌, Bool, true, false, List, ℕ, eqb, ℤ, pos, ◌-ℤ◌, Option, Some, None}
use Rattle.std.proofs.Math.Path.{refl}
use Rattle.std.proofs.Common.{sym, ap, ◌∙◌, inl, inr, arith, SFits, to_z, of_z}
use Rattle.std.specs.Int.{w32, w64}
use Rattle.std.proofs.Math.Facts.{to_z-of_z}
use Rattle.basics.specs.Integers.{wrap32}
use Rattle.basics.specs.Options.{Maybe}
use Rattle.basics.specs.Laws.Booleans.{both_true}
use Rattle.formats.specs.Format.{Format, Value, number, signed, optional, ◌&◌}
use Rattle.formats_judge.specs.Judged.{ok}
use Rattle.formats_write.specs.Promises.Given.{given_signed}
use Rattle.formats_read.specs.Laws.Here.{halves, small_here}
use Rattle.formats_read.specs.Promises.Fields.{part}
use Rattle.formats_read.specs.Promises.Here.{Here}
use Rattle.formats_read.specs.Promises.Reads.{ReadsNumber, ReadsText}
use Rattle.formats_skip.specs.Promises.Passes.{Passes}
use Rattle.formats_skip.specs.Laws.Passes.{any_optional_signed}
use Rattle.decode.specs.Trip.{delay, stop_update, trip, StopUpdate}
use Rattle.journey.specs.Times as times
use Rattle.journey_times.specs.Laws.Ranges.{narrowed}
use Rattle.journey_times.specs.Promises.Realtime.{realtime_of, given_delay, Ranged, ReadsDelay}
use Rattle.journey_times.specs.Promises.Realtime.{ReadsEvent, PastEvent, Cancels, event_by, ByTrip, ByUpdate}
use Rattle.journey_times.specs.Promises.Realtime.{event_of, Applies}
use Rattle.journey_times.specs.declared.Known.{Known}
use Rattle.journey_times.specs.declared.Known.TheVariants as knowns
use Rattle.journey_times.specs.declared.StopRealtime.{StopRealtime}
use Rattle.journey_times.specs.declared.EventTimes.{EventTimes}
use Rattle.journey_times.specs.declared.Event.{Event}
use Rattle.journey_times.specs.declared.Event.TheVariants as kinds

-- an optional number of 64 bits
abbrev pub Signed : List ℕ → ℕ → Option ℤ → Type 0
Signed s p r = (lo hi : ℤ) (v : Maybe ℤ) (q : ℕ) → Here (optional (signed lo hi)) s p q v → given_signed r ≡ v

-- a delay has 32
present : {z d : ℤ} → d ≡ wrap32 (z -ℤ pos 0) → (v : Maybe ℤ) → inr z ≡ v → ok 6 (optional delay) v ≡ true
    → inr d ≡ v
present f (inl x) e k = absurd (let y : ◌≡◌ {A = ℕ} 0 1 = cc in omega arith)
present {z} f (inr y) e k = let x : z ≡ y = cc in ap inr (narrowed (f ∙ ap (λ y. wrap32 (y -ℤ pos 0)) x) k)

module _ {s : List ℕ} {p : ℕ} where
  pub delay_absent : {r : Option ℤ} → r ≡ None → Signed s p r → ReadsDelay s p None
  delay_absent e h = record { is = λ {q} {v} R. sym (ap given_signed e) ∙ h _ _ v q R.here }

  pub delay_present : {r : Option ℤ} {z d : ℤ} → r ≡ Some z → SFits w64 z → SFits w32 d
      → d ≡ wrap32 (to_z w64 (of_z w64 z) -ℤ pos 0) → Signed s p r
      → ReadsDelay s p (Some (to_z w32 (of_z w32 d)))
  delay_present {r} {z} {d} e f g k h = record {
    is = λ {q} {v} R. ap inr (to_z-of_z g)
        ∙ present (k ∙ ap (λ y. wrap32 (y -ℤ pos 0)) (to_z-of_z f)) v
        (sym (ap given_signed e) ∙ h _ _ v q R.here) R.six;
  }

-- a pair within its ranges: both halves are
pub first_half : {a b : Format} {s : List ℕ} {p q : ℕ} {v : Value (a & b)} → Ranged (a & b) s p q v
    → (m : ℕ) × Ranged a s p m v.0 × Ranged b s m q v.1
first_half {a} {b} {v} R =
    let h = halves R.here in
    let k = both_true (ok 6 a v.0) (ok 6 b v.1) R.six in
    (_, record { here = h.first; six = k.0 }, record { here = h.second; six = k.1 })

moved : {f : Format} {s : List ℕ} {p r q : ℕ} {v : Value f} → r ≡ p → Ranged f s p q v → Ranged f s r q v
moved e R = rw e R

module _ {s : List ℕ} {p m : ℕ} (P : Passes (optional (number 0 0)) s p m) where
  behind_optional : {lo hi : ℤ} {b : Format} {q : ℕ} {v : Value (optional (signed lo hi) & b)}
      → Ranged (optional (signed lo hi) & b) s p q v → Ranged b s m q v.1
  behind_optional R = let h = first_half R in moved ((any_optional_signed P).to h.1.here) h.2

  pub reads_event : {d : Option ℤ} {t : Option ℤ} → ReadsDelay s p d
      → Signed s m t
      → ReadsEvent s p (record { delay = d; time = t })
  reads_event D T = record {
    late = λ R. D.is (first_half R).1;
    timed = λ R. T _ _ _ _ (first_half (behind_optional R)).1.here;
  }

  pub past_event : {r : ℕ} → Passes (optional (number 0 0)) s m r → PastEvent s p r
  past_event Q = record {
    behind = λ R. let h = first_half (behind_optional R) in moved ((any_optional_signed Q).to h.1.here) h.2;
  }

  pub cancels : {n e : ℕ} → ReadsNumber s m n e → Cancels s p (eqb n 1)
  cancels N = record {
    is = λ {q} {t} h.
        let x = halves h in
        let k = (any_optional_signed P).to x.first in
        let y : Here (part 1 trip) s m q t.1 = rw k x.second in
        ap (λ n. eqb n 1) (N.value (small_here (halves y).first));
  }

-- the two events of an update
events : {s : List ℕ} {u a b q : ℕ} {v : StopUpdate} → ReadsText s u a b → Ranged stop_update s u q v
    → Ranged (part 1 stop_update) s b q v.1
events T R = let h = first_half R in moved (T.next h.1.here) h.2

module _ {at : ℤ} (f : SFits w64 at) {s : List ℕ} {p : ℕ} {r : StopRealtime} where
  pub by_trip : {b : Bool} {d : Option ℤ} → Cancels s p b → ReadsDelay s p d
      → realtime_of r ≡ times.delayed (to_z w64 (of_z w64 at)) b (given_delay d) → ByTrip at s p r
  by_trip C D k = record { is = λ R e. k ∙ rw (to_z-of_z f, C.is R.here, D.is (first_half R).1) refl }

  module _ {u a b m : ℕ} {x y : EventTimes} {d : Option ℤ} (T : ReadsText s u a b) (X : ReadsEvent s b x)
      (P : PastEvent s b m) (Y : ReadsEvent s m y) (D : ReadsDelay s p d) where
    pub by_arrival : {e : Event} → e ≡ kinds.Arrival → realtime_of r ≡ event_by (to_z w64 (of_z w64 at)) x y d
        → ByUpdate e at s p u r
    by_arrival g k = record {
      is = λ R S. let E = events T S in let F = P.behind E in
          k ∙ rw (to_z-of_z f, g, X.late E, X.timed E, Y.late F, Y.timed F, D.is (first_half R).1) refl;
    }

    pub by_departure : {e : Event} → e ≡ kinds.Departure → realtime_of r ≡ event_by (to_z w64 (of_z w64 at)) y x d
        → ByUpdate e at s p u r
    by_departure g k = record {
      is = λ R S. let E = events T S in let F = P.behind E in
          k ∙ rw (to_z-of_z f, g, X.late E, X.timed E, Y.late F, Y.timed F, D.is (first_half R).1) refl;
    }

-- by what is known of a stop
module _ {e : Event} {at : ℤ} (f : SFits w64 at) {s : List ℕ} {k : Known} {r : StopRealtime} where
  pub applies_none : k ≡ knowns.Nothing → realtime_of r ≡ times.delayed (to_z w64 (of_z w64 at)) false (inl tt)
      → Applies e at s k r
  unfolding times.apply_time
  applies_none g h = rw g (record { is = λ o sequence stop K. h ∙ rw (K, to_z-of_z f) refl })

  pub applies_trip : {p : ℕ} → k ≡ knowns.Trip p → ByTrip (to_z w64 (of_z w64 at)) s p r → Applies e at s k r
  unfolding times.apply_time
  applies_trip g h = rw g (record {
    is = λ o sequence stop K. h.is K.2.1 (event_of e) ∙ rw (K.1, K.3, to_z-of_z f) refl;
  })

  pub applies_update : {p u : ℕ} → k ≡ knowns.Update p u → ByUpdate e (to_z w64 (of_z w64 at)) s p u r
      → Applies e at s k r
  unfolding times.apply_time
  applies_update g h = rw g (record {
    is = λ o sequence stop K. h.is K.2.1 K.3.2.1 ∙ rw (K.1, K.3.1, to_z-of_z f) refl;
  })
