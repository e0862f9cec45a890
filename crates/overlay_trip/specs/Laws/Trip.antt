-- Law. A trip's record by checked reading.
use Rattle.std.specs.Prelude.{◌≡◌, refl, List, ℕ, ◌%◌, ◌≤◌, ◌<◌, pos, negsuc, Bool, ◌&&◌, Option, Some, None}
use Rattle.std.proofs.Common.{ap, ◌∙◌, arith}
use Rattle.formats.specs.Format.{Format, small, optional, ◌&◌, list, Value}
use Rattle.maps.specs.Map.{ascending}
use Rattle.maps.specs.Order.{numbers}
use Rattle.decode.specs.Trip.{delay, instant, date, id, number32, time, stop_update, trip, Trip}
use Rattle.decode.specs.Trip.{updates_of}
use Rattle.formats_check.specs.Laws.Rising.{ascend}
use Rattle.formats_check.specs.Promises.Checked.{Number, fine, Fine, Test, own, behind, holds}
use Rattle.formats_check.specs.Laws.Elements.{number_no, number_high, number_so, signed_no, signed_bad, signed_so}
use Rattle.formats_check.specs.Laws.Elements.{around_in, around_over, upward_in, upward_over, upward_below}
use Rattle.basics.specs.Laws.Booleans.{and_assoc}

module _ {s : List ℕ} {at : ℕ} {o : Option (ℕ × ℕ)} (e : Number s at o) where
  pub delay_no : o ≡ None → Fine delay s at None
  delay_no h = signed_no (negsuc 2147483647) (pos 2147483647) e h

  pub instant_no : o ≡ None → Fine instant s at None
  instant_no h = signed_no (pos 0) (pos 4102444800) e h

  pub number32_no : o ≡ None → Fine number32 s at None
  number32_no h = number_no 0 4294967295 e h

  module _ {n p : ℕ} (h : o ≡ Some (n, p)) where
    pub number32_over : 4294967295 < n → Fine number32 s at None
    number32_over l = number_high 0 4294967295 e h (omega arith) l

    pub number32_so : n ≤ 4294967295 → Fine number32 s at (Some p)
    number32_so l = number_so 0 4294967295 e h (omega arith) l

    pub delay_over : 4294967295 < n → Fine delay s at None
    delay_over l = signed_bad (negsuc 2147483647) (pos 2147483647) e h (around_over 2147483647 n (omega arith))

    pub delay_so : n ≤ 4294967295 → Fine delay s at (Some p)
    delay_so l = signed_so (negsuc 2147483647) (pos 2147483647) e h (around_in 2147483647 n (omega arith))

    pub instant_odd : (n % 2 ≡ 0 → ⊥) → Fine instant s at None
    instant_odd z = signed_bad (pos 0) (pos 4102444800) e h (upward_below 4102444800 n z)

    pub instant_over : n % 2 ≡ 0 → 8204889600 < n → Fine instant s at None
    instant_over z l = signed_bad (pos 0) (pos 4102444800) e h (upward_over 4102444800 n z (omega arith))

    pub instant_so : n % 2 ≡ 0 → n ≤ 8204889600 → Fine instant s at (Some p)
    instant_so z l = signed_so (pos 0) (pos 4102444800) e h (upward_in 4102444800 n z (omega arith))

-- a record that is good: its annotations hold, and its updates ascend
abbrev pub time_good : Test (time & list 128 (number32 & stop_update))
time_good = behind time (own (list 128 (number32 & stop_update)) (ascend 128 4294967295 stop_update))

abbrev pub route_good : Test (id & optional number32 & time & list 128 (number32 & stop_update))
route_good = behind id (behind (optional number32) time_good)

abbrev pub trip_good : Test trip
trip_good = behind (optional delay) (behind (small 1) (behind date route_good))

-- a test of the last part, after the annotations of the whole
behind_as : (a b : Format) (t : Test b) (A : Value b → Bool) → ((v : Value b) → (fine b v && A v) ≡ holds t v)
    → (v : Value (a & b)) → (fine (a & b) v && A v.1) ≡ holds (behind a t) v
behind_as a b t A h v = and_assoc (fine a v.0) (fine b v.1) (A v.1) ∙ ap (λ x. fine a v.0 && x) (h v.1)

abbrev F6 : Format
F6 = list 128 (number32 & stop_update)

abbrev F4 : Format
F4 = optional number32 & time & F6

abbrev A6 : Value F6 → Bool
A6 v = ascending numbers v

time_good_holds : (v : Value (time & F6)) → (fine (time & F6) v && A6 v.1) ≡ holds time_good v
time_good_holds = behind_as time F6 (own F6 (ascend 128 4294967295 stop_update)) A6 (λ v. refl)

route_good_holds : (v : Value (id & F4)) → (fine (id & F4) v && A6 v.1.1.1) ≡ holds route_good v
route_good_holds = behind_as id F4 (behind (optional number32) time_good) (λ v. A6 v.1.1) (behind_as
    (optional number32) (time & F6) time_good (λ v. A6 v.1) time_good_holds)

pub trip_good_holds : (t : Trip) → (fine trip t && ascending numbers (updates_of t)) ≡ holds trip_good t
trip_good_holds =
    behind_as (optional delay) (small 1 & date & id & F4) (behind (small 1) (behind date route_good)) (λ v. A6
    v.1.1.1.1.1)
    (behind_as (small 1) (date & id & F4) (behind date route_good) (λ v. A6 v.1.1.1.1)
    (behind_as date (id & F4) route_good (λ v. A6 v.1.1.1) route_good_holds))
