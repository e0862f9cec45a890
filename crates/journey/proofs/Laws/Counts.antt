-- Law. Question 7 of a finished card: its legs and middle stops are as many as the arriving card's, and its headers
-- are few.
use Rattle.std.specs.Prelude.{◌≡◌, true, false, List, [], ◌∷◌, map, ℕ, ◌≤◌, length}
use Rattle.std.proofs.Math.Path.{refl}
use Rattle.std.proofs.Common.{inl, inr, arith, le-leb}
use Rattle.formats.specs.Class.{utf8}
use Rattle.basics.specs.Lists.{all}
use Rattle.formats.specs.Format.{Format, text, list, ◌&◌, Value}
use Rattle.formats_judge.specs.Judged.{ok}
use Rattle.overlay.specs.State.{State, overlay}
use Rattle.overlay.specs.Records.{Feeds, shown}
use Rattle.basics.specs.Laws.Booleans.{both_true}
use Rattle.overlay.proofs.Laws.Within.{both, all_true, few, counted, judges, unjudged}
use Rattle.journey.specs.Card.{middle, transit, leg, card, card_of, transit_of, middle_of, card_value, transit_value}
use Rattle.journey.specs.Card.{middle_value}
use Rattle.journey.specs.Enrich.{trip_rt, enrich_middle, enrich_transit, enrich_leg, transits, headers_of}
use Rattle.journey.specs.Enrich.{enrich_with_realtime}
use Rattle.journey.proofs.Laws.Headers.{map_length, headers_few}

-- a value within question 7
record Seven (f : Format) (v : Value f) : Type 0 where
  yes : ok 7 f v ≡ true

-- a format without lists is
plain : {f : Format} {v : Value f} → judges 7 f ≡ false → Seven f v
plain {f} {v} h = record { yes = unjudged 7 f h v }

-- a pair, taken apart and put together
module _ {a b : Format} {v : Value (a & b)} where
  first : Seven (a & b) v → Seven a v.0
  first w = record { yes = (both_true (ok 7 a v.0) (ok 7 b v.1) w.yes).0 }

  rest : Seven (a & b) v → Seven b v.1
  rest w = record { yes = (both_true (ok 7 a v.0) (ok 7 b v.1) w.yes).1 }

  joined : Seven a v.0 → Seven b v.1 → Seven (a & b) v
  joined x y = record { yes = both x.yes y.yes }

  -- behind a first part without lists
  behind : judges 7 a ≡ false → Seven b v.1 → Seven (a & b) v
  behind h y = joined (plain h) y

-- a list that is not too long, of values without lists
listed : (l : ℕ) (f : Format) → judges 7 f ≡ false → (v : List (Value f)) → length v ≤ l → Seven (list l f) v
listed l f h v n = record { yes = both (le-leb (length v) l n) (all_true (ok 7 f) (unjudged 7 f h) v) }

module _ (B : Feeds) where
  transit_seven : (t : Value transit) → Seven transit t
      → Seven transit (transit_value (enrich_transit B (transit_of t)))
  unfolding enrich_transit
  transit_seven t w =
      let ms = (transit_of t).middles in
      let stops : Seven (list 64 middle) ms =
      first (rest
      (rest (rest
      (rest (rest
      (rest (rest (rest (rest (rest (rest (rest (rest (rest (rest (rest (rest (rest (rest w))))))))))))))))))) in
      let n = few 64 middle ms stops.yes in
      let g : Value middle
      → Value middle = λ m. middle_value (enrich_middle (trip_rt B (transit_of t)) (middle_of m)) in
      behind refl
      (behind refl
      (behind refl (behind refl (behind refl (behind refl (behind refl (behind refl (behind refl (behind refl
      (behind refl
      (behind refl (behind refl (behind refl (behind refl (behind refl (behind refl (behind refl (behind refl
      (joined (listed 64 middle refl _ (omega (arith, map_length g ms, n))) (plain refl))))))))))))))))))))

  leg_seven : (x : Value leg) → ok 7 leg x ≡ true → ok 7 leg (enrich_leg B x) ≡ true
  leg_seven (inl p) e = refl
  leg_seven (inr t) e = (transit_seven t (record { yes = e })).yes

  legs_seven : (l : List (Value leg)) → all (ok 7 leg) l ≡ true → all (ok 7 leg) (map (enrich_leg B) l) ≡ true
  legs_seven [] e = refl
  legs_seven (x ∷ l) e = let q = both_true (ok 7 leg x) (all (ok 7 leg) l) e in
      both (leg_seven x q.0) (legs_seven l q.1)

-- A FINISHED CARD IS WITHIN QUESTION 7 where the arriving card and the state are
pub finished_seven : (s : State) → ok 7 overlay s ≡ true → (v : Value card) → ok 7 card v ≡ true
    → ok 7 card (card_value (enrich_with_realtime (shown s) (card_of v))) ≡ true
unfolding enrich_with_realtime
finished_seven s h v e =
    let w : Seven card v = record { yes = e } in
    let legs = (card_of v).legs in
    let ls : Seven (list 16 leg) legs = rest (rest (rest (rest (rest (rest w))))) in
    let n = few 16 leg legs ls.yes in
    let B = shown s in
    let new : Seven (list 16 leg) (map (enrich_leg B) legs) =
    record {
      yes =
          both (le-leb (length (map (enrich_leg B) legs)) 16 (omega (arith, map_length (enrich_leg B) legs, n)))
          (legs_seven B legs (counted 16 leg legs ls.yes));
    } in
    let hs = headers_of B (transits legs) in
    let done : Seven card (card_value (enrich_with_realtime B (card_of v))) =
    behind refl
    (behind refl
    (behind refl
    (behind refl
    (behind refl (joined (listed 1024 (text 512 utf8) refl hs (headers_few s h (transits legs))) new))))) in
    done.yes
