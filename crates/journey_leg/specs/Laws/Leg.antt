-- Law. A transit leg written anew, part by part.
use Rattle.std.specs.Prelude.{◌≡◌, refl, Bool, true, false, List, ◌++◌, ℕ, ◌≤◌, ◌<◌, ◌^◌, ℤ, pos, length, Option, Some, None}
use Rattle.std.proofs.Common.{ap, ◌∙◌, append_assoc, arith, SFits, to_z, of_z, to_z-of_z}
use Rattle.std.proofs.Math.Option.{some}
use Rattle.std.proofs.Math.Seq.{slice}
use Rattle.std.specs.Int.{w32, w64}
use Rattle.formats.specs.Number.{number_w}
use Rattle.formats.specs.Format.{Value, number, optional, write}
use Rattle.formats_write.specs.Promises.Adds.{Adds}
use Rattle.formats_write.specs.Laws.Adds.{then, same}
use Rattle.formats_read.specs.Promises.Fields.{part}
use Rattle.formats_read.specs.Promises.Here.{Here}
use Rattle.formats_read.specs.Laws.Here.{halves}
use Rattle.formats_read.specs.Laws.Rewriting.{kept, changed}
use Rattle.formats_skip.specs.Promises.Passes.{Passes, Leads}
use Rattle.formats_skip.specs.Laws.Passes.{any_optional_signed}
use Rattle.formats_skip.specs.Laws.Leads.{lead_field}
use Rattle.overlay.specs.State.{Vehicle, latitude_of, longitude_of, updated_of}
use Rattle.vehicle_place.specs.declared.VehiclePlace.{VehiclePlace}
use Rattle.vehicle_place.specs.Promises.Place.{place_of, place_w}
use Rattle.vehicle_place.specs.Laws.Place.{handed}
use Rattle.journey.specs.Card.{card_time, transit, middle}
use Rattle.journey.specs.Enrich.{taken}
use Rattle.journey_times.specs.declared.StopRealtime.{StopRealtime}
use Rattle.journey_places.specs.declared.ChangingPlaces.{ChangingPlaces}
use Rattle.journey_leg.specs.declared.LegRealtime.{LegRealtime}
use Rattle.journey_leg.specs.Promises.Opens.{Opens}
use Rattle.journey_leg.specs.Promises.Leg.{given_w, told_w, live_of, new_place, PutsTimes, PutsFlag}
use Rattle.journey_leg.specs.Promises.Leg.{PutsPlace, PutsMarks, PutsFore, PutsEvent, PutsMiddle}
use Rattle.journey_leg.specs.Laws.Opens.{copied, joins}

-- a signed local holds bits
wide_fits : {d : ℤ} → SFits w32 d → SFits w64 d
wide_fits f = record { sfits = omega (arith, f.sfits) }

pub widens : {d : ℤ} → SFits w32 d → SFits w64 (to_z w32 (of_z w32 d))
widens f = rw (to_z-of_z f) (wide_fits f)

pub widened : {d : ℤ} → SFits w32 d → to_z w64 (of_z w64 (to_z w32 (of_z w32 d))) ≡ d
widened f = rw (to_z-of_z f) (to_z-of_z (wide_fits f))

module _ (d a : StopRealtime) {x y : ℤ} {l m n o q : List ℕ} {r i j k h : Option ℕ} where
  pub all_told : SFits w64 d.time → SFits w64 a.time → SFits w32 d.delay → SFits w32 a.delay
      → SFits w64 x → SFits w64 y → x ≡ to_z w32 (of_z w32 d.delay) → y ≡ to_z w32 (of_z w32 a.delay)
      → Adds l r m i (given_w (to_z w64 (of_z w64 d.time))) → Adds m i n j (given_w (to_z w64 (of_z w64 a.time)))
      → Adds n j o k (given_w (to_z w64 (of_z w64 x))) → Adds o k q h (given_w (to_z w64 (of_z w64 y)))
      → Adds l r q h (told_w d a)
  all_told e f g t u v X Y A B C D =
      then (same A (ap given_w (to_z-of_z e))) (then (same B (ap given_w (to_z-of_z f)))
      (then (same C (ap given_w (to_z-of_z u ∙ X ∙ to_z-of_z g)))
      (same D (ap given_w (to_z-of_z v ∙ Y ∙ to_z-of_z t)))))

module _ {b : Bool} {s : List ℕ} {p t : ℕ} {l m : List ℕ} {w r : Option ℕ} where
  pub times_told : (d a : StopRealtime) → b ≡ true → Adds l w m r (told_w d a) → PutsTimes b d a s p t l w m r
  times_told d a e A = rw e (record {
    opens = λ F. record {
      bytes = told_w d a;
      adds = A;
      whole = λ u. rw (append_assoc, append_assoc, append_assoc) refl;
    };
  })

  pub times_kept : (d a : StopRealtime) → b ≡ false → (p ≤ t → t ≤ length s → Adds l w m r (slice p t s))
      → PutsTimes b d a s p t l w m r
  times_kept d a e A = rw e (record { opens = λ F. copied F A })

  pub flag_set : b ≡ true → Adds l w m r (number_w 1) → PutsFlag b s p t l w m r
  flag_set e A = rw e (record { opens = λ F. record { bytes = number_w 1; adds = A; whole = λ u. refl } })

  pub flag_kept : b ≡ false → (p ≤ t → t ≤ length s → Adds l w m r (slice p t s)) → PutsFlag b s p t l w m r
  flag_kept e A = rw e (record { opens = λ F. copied F A })

place_open : {l m : List ℕ} {w r : Option ℕ} {p : VehiclePlace} (v : Vehicle)
    → p ≡ place_of (latitude_of v) (longitude_of v) (updated_of v) → latitude_of v < 2 ^ 64 → longitude_of v < 2 ^ 64
    → Adds l w m r (place_w p) → (x : Value (part 16 transit))
    → Opens (part 16 transit) (part 19 transit) l w m r (new_place (some v) x)
place_open {p} v e g h A x = record {
  bytes = place_w p;
  adds = A;
  whole = λ u. ap (λ y. y ++ write (part 19 transit) u)
      (ap place_w e ∙ handed (latitude_of v) (longitude_of v) (pos 0) (pos 0) (updated_of v) g h)
      ∙ rw (append_assoc, append_assoc) refl;
}

module _ {v : Option VehiclePlace} {s : List ℕ} {p t : ℕ} {l m : List ℕ} {w r : Option ℕ} where
  pub place_kept : v ≡ None → (p ≤ t → t ≤ length s → Adds l w m r (slice p t s)) → PutsPlace v s p t l w m r
  place_kept e A = rw e (record { opens = λ o S F. rw S (copied F A) })

  pub place_told : {y : VehiclePlace} → v ≡ Some y → Adds l w m r (place_w y) → PutsPlace v s p t l w m r
  place_told e A = rw e (record {
    opens = λ o S {e} {x} F. rw S.1 (place_open S.0 S.2 S.3 S.4 A x);
  })

-- times, flag and place one after another
pub marks_put : {R : LegRealtime} {b : Bool} {s : List ℕ} {p n t : ℕ} {l m o : List ℕ} {w r k : Option ℕ}
    → b ≡ live_of R
    → PutsTimes b R.departs R.arrives s p n l w m r → PutsFlag R.cancels s n t m r o k
    → PutsMarks R s p n t l w o k
marks_put {R} {b} {s} {p} {n} {t} {l} {m} {o} {w} {r} e A B =
    let T : PutsTimes (live_of R) R.departs R.arrives s p n l w m r = rw (← e) A in
    record { opens = λ F G. joins (T.opens F) (B.opens G) }

pub fore_put : {R : LegRealtime} {y : Option VehiclePlace} {s : List ℕ} {p : ℕ} {c : ChangingPlaces} {l m n o : List ℕ}
    {w r i k : Option ℕ} → (p ≤ c.realtime → c.realtime ≤ length s → Adds l w m r (slice p c.realtime s))
    → PutsMarks R s c.realtime c.cancelled c.place m r n i → PutsPlace y s c.place c.middles n i o k
    → PutsFore R y s p c l w o k
fore_put A B C = record {
  opens = λ P o S h.
      let F = lead_field P.realtime tt h in
      let G = lead_field P.cancelled tt F.here in
      let H = lead_field P.place tt G.here in
      let I = lead_field P.middles tt H.here in
      joins (copied F A) (joins (B.opens G H) (C.opens o S I));
}

module _ (x : StopRealtime) {s : List ℕ} {p q : ℕ} {l m : List ℕ} {w r : Option ℕ} where
  pub event_told : SFits w64 x.time → x.has ≡ true → Adds l w m r (given_w (to_z w64 (of_z w64 x.time)))
      → PutsEvent x s p q l w m r
  event_told f e A = record { adds = λ h. rw (e, ← to_z-of_z f) A }

  pub event_kept : x.has ≡ false → (p ≤ q → q ≤ length s → Adds l w m r (slice p q s)) → PutsEvent x s p q l w m r
  event_kept e A = record { adds = λ h. rw e (kept h A) }

pub middle_put : {a d : StopRealtime} {s : List ℕ} {p e t q : ℕ} {l m n o : List ℕ} {w r i k : Option ℕ}
    → Leads 3 middle s p e → Passes (optional (number 0 0)) s e t
    → (p ≤ e → e ≤ length s → Adds l w m r (slice p e s)) → PutsEvent a s e t m r n i → PutsEvent d s t q n i o k
    → PutsMiddle a d s p q l w o k
middle_put {a} {d} {s} {p} {e} {t} {q} L P A B C = record {
  adds = λ {v} h.
      let F = lead_field L tt h in
      let H = halves F.here in
      let z = (any_optional_signed P).to H.first in
      let x : Here (optional card_time) s e t v.1.1.1.0 = rw z H.first in
      let y : Here (optional card_time) s t q v.1.1.1.1 = rw z H.second in
      changed F A (taken a.has a.time v.1.1.1.0, taken d.has d.time v.1.1.1.1)
      (then (B.adds x) (C.adds y));
}
