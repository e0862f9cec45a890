-- Law. The head that is written is the finished card's.
use Rattle.std.specs.Prelude.{◌≡◌, refl, Bool, true, false, ℕ, zero, suc, ◌+◌, ◌≤◌, ◌<◌, ℤ, pos, negsuc, ◌-ℤ◌, ltb, length, Option}
use Rattle.std.proofs.Common.{sym, ap, ◌∙◌, arith, ltb-true, ltb-false, SFits, to_z, of_z, to_z-of_z}
use mathlib.Core.List.{List, [], ◌∷◌, ◌++◌, append_assoc, map, foldl}
use Rattle.std.proofs.Math.IntN.{sub_ℕ}
use Rattle.std.specs.Int.Signed.{mag, lt_z}
use Rattle.std.specs.Int.{w64}
use Rattle.basics.specs.Options.{given_or}
use Rattle.basics.specs.Laws.Booleans.{false_true}
use Rattle.formats.specs.Number.{zig, number_w}
use Rattle.formats.specs.Format.{Value, signed, write}
use Rattle.formats_write.specs.Promises.Adds.{Adds}
use Rattle.formats_write.specs.Promises.Given.{given_signed}
use Rattle.formats_write.specs.Laws.Adds.{then, same}
use Rattle.formats_read.specs.Promises.Fields.{part}
use Rattle.formats_read.specs.Promises.Here.{Here}
use Rattle.formats_read.specs.Laws.Here.{halves}
use Rattle.formats_skip.specs.Laws.Leads.{lead_field}
use Rattle.overlay.specs.Records.{Feeds}
use Rattle.journey.specs.Card.{card, card_of, card_value}
use Rattle.journey.specs.Enrich.{headers_of, transits, enrich_leg, enrich_with_realtime}
use Rattle.journey_places.specs.declared.CardPlaces.{CardPlaces}
use Rattle.journey_places.specs.Promises.Places.{CardAt}
use Rattle.journey_card.specs.declared.CardTimes.{CardTimes}
use Rattle.journey_card.specs.declared.Survey as code
use Rattle.journey_card.specs.Promises.Survey.{nothing, look, gathered_of, status_by}
use Rattle.journey_card.specs.Promises.Head.{Small, Minus, ReadsTimes, PutsHead, head_w, new_head}
use Rattle.journey_card.specs.Promises.Head.{departure_by, arrival_by}
use Rattle.journey_card.specs.Laws.Survey.{status_is, first_is, last_is}

-- a number that leaves room
below : (z : ℤ) → lt_z z (negsuc 4611686018427387903) ≡ true → 4611686018427387904 ≤ mag z
below (pos n) e = false_true e
below (negsuc n) e = omega (arith, ltb-true 4611686018427387903 n e)

above : (z : ℤ) → lt_z (pos 4611686018427387903) z ≡ true → 4611686018427387904 ≤ mag z
above (pos n) e = omega (arith, ltb-true 4611686018427387903 n e)
above (negsuc n) e = false_true e

inside : (z : ℤ) → lt_z z (negsuc 4611686018427387903) ≡ false → lt_z (pos 4611686018427387903) z ≡ false
    → mag z < 4611686018427387904
inside (pos n) e f = omega (arith, ltb-false 4611686018427387903 n f)
inside (negsuc n) e f = omega (arith, ltb-false 4611686018427387903 n e)

module _ (z : ℤ) (f : SFits w64 z) where
  pub small_below : lt_z (to_z w64 (of_z w64 z)) (negsuc 4611686018427387903) ≡ true → Small z false
  small_below e = record { yes = λ x. false_true x; no = λ x. below z (rw (to_z-of_z f) at e) }

  pub small_above : lt_z (pos 4611686018427387903) (to_z w64 (of_z w64 z)) ≡ true → Small z false
  small_above e = record { yes = λ x. false_true x; no = λ x. above z (rw (to_z-of_z f) at e) }

  pub small_inside : lt_z (to_z w64 (of_z w64 z)) (negsuc 4611686018427387903) ≡ false
      → lt_z (pos 4611686018427387903) (to_z w64 (of_z w64 z)) ≡ false → Small z true
  small_inside e g = record {
    yes = λ x. inside z (rw (to_z-of_z f) at e) (rw (to_z-of_z f) at g);
    no = λ x. false_true (sym x);
  }

-- a difference
mag_sub : (a b : ℕ) → mag (sub_ℕ a b) ≤ a + b
mag_sub a b = go (ltb a b) refl
  where
    go : (t : Bool) → ltb a b ≡ t → mag (sub_ℕ a b) ≤ a + b
    go true e = rw e (omega arith)
    go false e = rw e (omega arith)

mag_both : (a b : ℕ) → mag (sub_ℕ (suc a) (suc b)) ≤ a + b + 1
mag_both a b = go (ltb (suc a) (suc b)) refl
  where
    go : (t : Bool) → ltb (suc a) (suc b) ≡ t → mag (sub_ℕ (suc a) (suc b)) ≤ a + b + 1
    go true e = rw e (omega arith)
    go false e = rw e (omega arith)

mag_minus : (z y : ℤ) → mag (z -ℤ y) ≤ mag z + mag y + 1
mag_minus (pos a) (pos zero) = omega arith
mag_minus (pos a) (pos (suc b)) = omega (arith, mag_sub a (suc b))
mag_minus (pos a) (negsuc b) = omega arith
mag_minus (negsuc a) (pos zero) = omega (arith, mag_sub 0 (suc a))
mag_minus (negsuc a) (pos (suc b)) = omega arith
mag_minus (negsuc a) (negsuc b) = omega (arith, mag_both b a)

module _ {a d : ℤ} (f : SFits w64 a) (g : SFits w64 d) {x y : Bool} (X : Small (to_z w64 (of_z w64 a)) x)
    (Y : Small (to_z w64 (of_z w64 d)) y) where
  first : x ≡ true → mag a < 4611686018427387904
  first e = rw (to_z-of_z f) at (X.yes e)

  second : y ≡ true → mag d < 4611686018427387904
  second e = rw (to_z-of_z g) at (Y.yes e)

  fits : x ≡ true → y ≡ true → SFits w64 (a -ℤ d)
  fits e h = record { sfits = omega (arith, mag_minus a d, first e, second h) }

  pub minus_fits : x ≡ true → y ≡ true → SFits w64 (to_z w64 (of_z w64 a) -ℤ to_z w64 (of_z w64 d))
  minus_fits e h = rw (to_z-of_z f, to_z-of_z g) (fits e h)

  pub minus_is : x ≡ true → y ≡ true
      → Minus a d (to_z w64 (of_z w64 (to_z w64 (of_z w64 a) -ℤ to_z w64 (of_z w64 d))))
  minus_is e h = record { is = λ i j. rw (to_z-of_z f, to_z-of_z g) (to_z-of_z (fits e h)) }

  pub minus_no : y ≡ false → Minus a d (pos 0)
  minus_no e = record { is = λ i j. absurd (omega (arith, Y.no e, ap mag (to_z-of_z g))) }

pub minus_none : {a : ℤ} (d : ℤ) → SFits w64 a → {x : Bool} → Small (to_z w64 (of_z w64 a)) x → x ≡ false
    → Minus a d (pos 0)
minus_none d f X e = record { is = λ i j. absurd (omega (arith, X.no e, ap mag (to_z-of_z f))) }

-- the card's times
module _ {S : code.Survey} {s : List ℕ} {p : ℕ} {P : CardPlaces} (C : CardAt s p P) {d a x y : ℤ} where
  pub reads_times : SFits w64 d → SFits w64 a → SFits w64 x → SFits w64 y
      → ((lo hi z : ℤ) (q : ℕ) → Here (signed lo hi) s P.departure q z → d ≡ z)
      → ((lo hi z : ℤ) (q : ℕ) → Here (signed lo hi) s P.arrival q z → a ≡ z)
      → x ≡ given_or (to_z w64 (of_z w64 d)) (given_signed S.first)
      → y ≡ given_or (to_z w64 (of_z w64 a)) (given_signed S.last)
      → ReadsTimes S s p (record { departure = to_z w64 (of_z w64 x); arrival = to_z w64 (of_z w64 y) })
  reads_times f g h i D A j k = record {
    departs = λ {e} {v} H.
        let z : d ≡ v.1.0 = D _ _ _ _ (halves (lead_field C.departure tt H).here).first in
        to_z-of_z h ∙ j ∙ ap (λ t. given_or t (given_signed S.first)) (to_z-of_z f ∙ z);
    arrives = λ {e} {v} H.
        let z : a ≡ v.1.1.0 = A _ _ _ _ (halves (lead_field C.arrival tt H).here).first in
        to_z-of_z i ∙ k ∙ ap (λ t. given_or t (given_signed S.last)) (to_z-of_z g ∙ z);
  }

-- the bytes of the head
signed_w : ℤ → List ℕ
signed_w z = number_w (zig z)

pub head_bytes : (t : CardTimes) (u : ℤ) (n : ℕ) {l1 l2 l3 l4 l5 l6 : List ℕ} {r1 r2 r3 r4 r5 r6 : Option ℕ}
    → SFits w64 t.departure → SFits w64 t.arrival → SFits w64 u
    → Adds l1 r1 l2 r2 (1 ∷ []) → Adds l2 r2 l3 r3 (number_w (zig (to_z w64 (of_z w64 t.departure))))
    → Adds l3 r3 l4 r4 (number_w (zig (to_z w64 (of_z w64 t.arrival))))
    → Adds l4 r4 l5 r5 (number_w (zig (to_z w64 (of_z w64 u)))) → Adds l5 r5 l6 r6 (number_w n)
    → Adds l1 r1 l6 r6 (head_w t.departure t.arrival u n)
unfolding signed_w
head_bytes t u n f g h A B C D E =
    then A (then (same B (ap signed_w (to_z-of_z f))) (then (same C (ap signed_w (to_z-of_z g)))
    (then (same D (ap signed_w (to_z-of_z h))) E)))

card_in : {s : List ℕ} {p e : ℕ} {v : Value card} → Here card s p e v → p < length s
card_in H = let x = (halves H).first in omega (arith, x.within)

apart : (d a u : ℤ) (n : ℕ) (x : List ℕ)
    → head_w d a u n ++ x ≡ 1 ∷ (number_w (zig d) ++ (number_w (zig a) ++ (number_w (zig u) ++ (number_w n ++ x))))
unfolding signed_w
apart d a u n x =
    ap (λ y. 1 ∷ y) (append_assoc (signed_w d) (signed_w a ++ (signed_w u ++ number_w n)) x
    ∙ ap (λ y. signed_w d ++ y) (append_assoc (signed_w a) (signed_w u ++ number_w n) x
    ∙ ap (λ y. signed_w a ++ y) (append_assoc (signed_w u) (number_w n) x)))

module _ {S : code.Survey} {s : List ℕ} {p : ℕ} {l m : List ℕ} {w r : Option ℕ} where
  pub head_out : length s ≤ p → PutsHead S s p l w m r
  head_out o = record { opens = λ H i j. absurd (omega (arith, card_in H)) }

  pub head_in : (t : CardTimes) (u : ℤ) (n : ℕ) → SFits w64 t.departure → SFits w64 t.arrival → SFits w64 u
      → ReadsTimes S s p t → Minus (to_z w64 (of_z w64 t.arrival)) (to_z w64 (of_z w64 t.departure)) u
      → n ≡ status_by (gathered_of S)
      → Adds l w m r (head_w t.departure t.arrival (to_z w64 (of_z w64 u)) n)
      → PutsHead S s p l w m r
  head_in t u n f g h T M e A = record {
    opens = λ {e = q} {v} H i j.
        let d = T.departs H in
        let a = T.arrives H in
        let x : to_z w64 (of_z w64 t.departure) ≡ departure_by v (gathered_of S) = to_z-of_z f ∙ d in
        let y : to_z w64 (of_z w64 t.arrival) ≡ arrival_by v (gathered_of S) = to_z-of_z g ∙ a in
        let z : to_z w64 (of_z w64 u) ≡ arrival_by v (gathered_of S) -ℤ departure_by v (gathered_of S) =
        to_z-of_z h ∙ M.is (rw y j) (rw x i) ∙ rw (x, y) refl in
        record {
          bytes = head_w t.departure t.arrival (to_z w64 (of_z w64 u)) n;
          adds = A;
          whole = λ o.
              ap (λ k. k ++ write (part 5 card) o)
              (ap (λ k. head_w k t.arrival (to_z w64 (of_z w64 u)) n) d
              ∙ ap (λ k. head_w (departure_by v (gathered_of S)) k (to_z w64 (of_z w64 u)) n) a
              ∙ ap (λ k. head_w (departure_by v (gathered_of S)) (arrival_by v (gathered_of S)) k n) z
              ∙ ap (head_w (departure_by v (gathered_of S)) (arrival_by v (gathered_of S))
              (arrival_by v (gathered_of S) -ℤ departure_by v (gathered_of S))) e)
              ∙ apart (departure_by v (gathered_of S)) (arrival_by v (gathered_of S))
              (arrival_by v (gathered_of S) -ℤ departure_by v (gathered_of S)) (status_by (gathered_of S))
              (write (part 5 card) o);
        };
  }

-- THE CARD: its head by the first pass, its headers and its legs
pub card_is : (B : Feeds) (v : Value card)
    → new_head v (foldl (look B) nothing (card_of v).legs)
    (headers_of B (transits (card_of v).legs), map (enrich_leg B) (card_of v).legs)
    ≡ card_value (enrich_with_realtime B (card_of v))
unfolding enrich_with_realtime
card_is B v = rw (first_is B (card_of v).legs, last_is B (card_of v).legs, status_is B (card_of v).legs) refl
