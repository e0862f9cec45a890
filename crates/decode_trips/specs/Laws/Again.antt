-- Law. The record that was written last, in an output that is written on.
use Rattle.std.specs.Prelude.{ℕ, ◌+◌, ◌-◌, ◌≤◌, ◌<◌, ◌≡◌, refl, Bool, true, false, List, ◌++◌, leb, length, take, drop, replicate, Option, Some, None}
use Rattle.std.proofs.Common.{sym, ap, ◌∙◌, arith, length-append, length-drop, length-take-le, take-take, take_at, drop_at, leb-true, leb-false}
use Rattle.std.specs.Option.{unwrap_or}
use Rattle.std.proofs.Math.Seq.{slice, length-slice}
use Rattle.std.proofs.lemmas.List.{take-append-le}
use Rattle.slices.specs.Lists.{pasted}
use Rattle.basics.specs.Laws.Booleans.{false_true}
use Rattle.formats.specs.Format.{write}
use Rattle.formats_write.specs.Laws.Slices.{slice_is}
use Rattle.formats_write.specs.Promises.Adds.{Adds}
use Rattle.decode.specs.Trip.{trip}
use Rattle.decode_slots.specs.Places.{is_new, held_at}
use Rattle.decode_index.specs.Promises.Message.{Fit}
use Rattle.decode_trips.specs.declared.Last.{Last}
use Rattle.decode_trips.specs.Promises.Again.{place_of, Ready, IsLast, Again}

pub place_or_zero : (w : Option ℕ) → unwrap_or w 0 ≡ place_of w
place_or_zero None = refl
place_or_zero (Some p) = refl

-- from a place that lies inside, to one that is known
record Arrived (l : List ℕ) (w : Option ℕ) (m : List ℕ) (e : ℕ) (y : List ℕ) : Type 0 where
  from : ℕ
  was : w ≡ Some from
  room : from + length y ≤ length l
  is : from + length y ≡ e
  holds : m ≡ pasted l from y

full_at : {C : Type 0} {p : ℕ} → None ≡ Some p → C
full_at e = absurd (let z : ◌≡◌ {A = ℕ} 0 1 = cc in omega arith)

at_at : {p q : ℕ} → Some p ≡ Some q → p ≡ q
at_at e = cc

module _ {l m : List ℕ} {r : Option ℕ} {y : List ℕ} {e : ℕ} where
  arrived : (w : Option ℕ) → ((p : ℕ) → w ≡ Some p → p ≤ length l) → Adds l w m r y → r ≡ Some e → Arrived l w m e y
  arrived None i A k = full_at (sym (A.full refl) ∙ k)
  arrived (Some p) i A k = go (leb (p + length y) (length l)) refl
    where
      go : (t : Bool) → leb (p + length y) (length l) ≡ t → Arrived l (Some p) m e y
      go true t =
          let h = leb-true (p + length y) (length l) t in
          record {
            from = p;
            was = refl;
            room = h;
            is = at_at (sym (A.next p refl h) ∙ k);
            holds = A.holds p refl h;
          }
      go false t =
          full_at (sym (A.over p refl (i p refl) (leb-false (p + length y) (length l) t)) ∙ k)

-- bytes pasted: those in front, and themselves
module _ (l : List ℕ) (p : ℕ) (y : List ℕ) (h : p + length y ≤ length l) where
  front_long : length (take p l) ≡ p
  front_long = length-take-le p l (omega arith)

  both_long : length (take p l ++ y) ≡ p + length y
  both_long = length-append (take p l) y ∙ ap (λ n. n + length y) front_long

  front_kept : (a e : ℕ) → e ≤ p → slice a e (pasted l p y) ≡ slice a e l
  front_kept a e k =
      ap (drop a)
      (take-append-le e (take p l ++ y) (drop (p + length y) l) (omega (arith, both_long))
      ∙ take-append-le e (take p l) y (omega (arith, front_long)) ∙ take-take e p l k)

  pasted_is : slice p (p + length y) (pasted l p y) ≡ y
  pasted_is =
      ap (drop p) (take_at (take p l ++ y) (drop (p + length y) l) (p + length y) both_long)
      ∙ drop_at (take p l) y p front_long

module _ {s o l : List ℕ} {w : Option ℕ} {L : Last} (R : Ready s o l w L) {m : List ℕ} {r : Option ℕ} where
  on_inside : {y : List ℕ} → Adds l w m r y → (p : ℕ) → r ≡ Some p → p ≤ length m
  on_inside A p k = let X = arrived w R.inside A k in omega (arith, X.room, X.is, A.size)

  pub ready_on : {y : List ℕ} → Adds l w m r y → Ready s o m r L
  ready_on {y} A = record {
    inside = on_inside A;
    last = λ p k f.
        let X = arrived w R.inside A k in
        let B = R.last X.from X.was f in
        record {
          forward = B.forward;
          low = omega (arith, B.low, X.is);
          is = ap (slice L.start L.end) X.holds
              ∙ front_kept l X.from y X.room L.start L.end B.low ∙ B.is;
        };
  }

  pub ready_new : {from to a e : ℕ} → Adds l w m r (write trip (held_at s o (from, to))) → a ≡ place_of w
      → e ≡ place_of r → Ready s o m r (record { from = from; to = to; start = a; end = e })
  ready_new {from} {to} {a} {e} A i j = record {
    inside = on_inside A;
    last = λ p k f.
        let y = write trip (held_at s o (from, to)) in
        let X = arrived w R.inside A k in
        let b : a ≡ X.from = i ∙ ap place_of X.was in
        let c : e ≡ X.from + length y = j ∙ ap place_of k ∙ sym X.is in
        record {
          forward = omega (arith, b, c);
          low = omega (arith, c, X.is);
          is = ap (λ n. slice a n m) c ∙ ap (λ n. slice n (X.from + length y) m) b
              ∙ ap (slice X.from (X.from + length y)) X.holds ∙ pasted_is l X.from y X.room;
        };
  }

-- nothing was written yet
pub ready_none : {s o l : List ℕ} {w : Option ℕ} {p : ℕ} → w ≡ Some p → p ≤ length l
    → Ready s o l w (record { from = 1; to = 0; start = 0; end = 0 })
ready_none {p} e h = record {
  inside = λ q k. let i : p ≡ q = at_at (sym e ∙ k) in omega arith;
  last = λ q k f. absurd (omega arith);
}

-- too far on, and no place
pub too_far : {l : List ℕ} {w : Option ℕ} {p : ℕ} (x : List ℕ) → w ≡ Some p → length l < p → Adds l w l None x
too_far {l} {w} {p} x e h = record {
  size = refl;
  full = λ k. refl;
  next = λ q k i. absurd (let j : p ≡ q = at_at (sym e ∙ k) in omega arith);
  holds = λ q k i. absurd (let j : p ≡ q = at_at (sym e ∙ k) in omega arith);
  over = λ q k i n. refl;
}

no_place : {l m : List ℕ} {r : Option ℕ} {x : List ℕ} → length m ≡ length l → r ≡ None → Adds l None m r x
no_place n e = record {
  size = n;
  full = λ k. e;
  next = λ q k i. full_at k;
  holds = λ q k i. full_at k;
  over = λ q k i j. e;
}

-- A RECORD COPIED
fit_forward : {s o : List ℕ} {from to : ℕ} → Fit s o (from, to) → from ≤ to
fit_forward {s} {o} {from} {to} F = go (is_new (from, to)) refl
  where
    go : (b : Bool) → is_new (from, to) ≡ b → from ≤ to
    go true e = (F.new e).forward
    go false e = (F.old e).forward

pub copied : {s o l : List ℕ} {L : Last} {from to : ℕ} {b : Bool} (w : Option ℕ) → Ready s o l w L → Fit s o (from, to)
    → IsLast L from to b → b ≡ true → {m : List ℕ} {r : Option ℕ} → Again l w m r L.start L.end
    → Adds l w m r (write trip (held_at s o (from, to)))
copied None R F I e A = no_place A.size (A.full refl)
copied {s} {o} {l} {L} {from} {to} (Some p) R F I e A =
    let i = I.same_from e in
    let j = I.same_to e in
    let f : L.from ≤ L.to = omega (arith, fit_forward F, i, j) in
    rw (i, j) (A.adds p refl (R.inside p refl) _ (R.last p refl f) (I.short e))

-- WHETHER A RECORD WAS LAST
pub not_last : {L : Last} {from to : ℕ} → IsLast L from to false
not_last = record { same_from = λ e. false_true e; same_to = λ e. false_true e; short = λ e. false_true e }

-- WRITTEN AGAIN, or not
module _ {l : List ℕ} {w : Option ℕ} {a e : ℕ} where
  pub again_full : w ≡ None → Again l w l None a e
  again_full f = record { size = refl; full = λ k. refl; adds = λ p k h x B s. full_at (sym f ∙ k) }

  pub again_back : e < a → Again l w l None a e
  again_back h = record {
    size = refl;
    full = λ k. refl;
    adds = λ p k i x B s. absurd (omega (arith, B.forward));
  }

  pub again_out : length l < e → Again l w l None a e
  again_out h = record {
    size = refl;
    full = λ k. refl;
    adds = λ p k i x B s. absurd (omega (arith, B.low));
  }

  pub again_long : 1024 < e - a → Again l w l None a e
  again_long h = record { size = refl; full = λ k. refl; adds = λ p k i x B s. absurd (omega arith) }

  module _ {q : ℕ} (f : w ≡ Some q) where
    pub again_far : length l < q → Again l w l None a e
    again_far h = record {
      size = refl;
      full = λ k. refl;
      adds = λ p k i x B s. absurd (let j : q ≡ p = at_at (sym f ∙ k) in omega arith);
    }

    pub again_over : e ≤ length l → length l - q < e - a → Again l w l None a e
    again_over h g = record {
      size = refl;
      full = λ k. refl;
      adds = λ p k i x B s.
          let j : q ≡ p = at_at (sym f ∙ k) in
          let n : e - a ≡ length x = sym (length-slice a e l h) ∙ ap length B.is in
          record {
            size = refl;
            full = λ z. refl;
            next = λ y z u. absurd (let v : y ≡ p = at_at (sym z ∙ k) in omega arith);
            holds = λ y z u. absurd (let v : y ≡ p = at_at (sym z ∙ k) in omega arith);
            over = λ y z u v. refl;
          };
    }

    -- through a local array
    pub again_done : {b m : List ℕ} → a ≤ e → e ≤ length l → q ≤ length l → e - a ≤ length l - q
        → b ≡ pasted (replicate 1024 0) 0 (take (e - a) (drop a l)) → m ≡ pasted l q (take (e - a) b)
        → Again l w m (Some (q + (e - a))) a e
    again_done {b} {m} h g u v i j =
        let y = take (e - a) (drop a l) in
        let n : length y ≡ e - a = ap length (slice_is a e l h g) ∙ length-slice a e l g in
        let c : take (e - a) b ≡ y =
        ap (take (e - a)) i ∙ take_at y (drop (0 + length y) (replicate 1024 0)) (e - a) n in
        let o : m ≡ pasted l q y = j ∙ ap (pasted l q) c in
        record {
          size = ap length o ∙ pasted_long l q y (omega arith);
          full = λ k. full_at (sym k ∙ f);
          adds = λ p k t x B s.
              let r : q ≡ p = at_at (sym f ∙ k) in
              let d : y ≡ x = slice_is a e l h g ∙ B.is in
              rw (k, ← r, ← d) (copied_adds l q y (e - a) n o (omega arith));
        }
      where
        pasted_long : (l : List ℕ) (q : ℕ) (y : List ℕ) → q + length y ≤ length l → length (pasted l q y) ≡ length l
        pasted_long l q y h =
            length-append (take q l ++ y) (drop (q + length y) l)
            ∙ omega (arith, both_long l q y h, length-drop (q + length y) l)

        copied_adds : (l : List ℕ) (q : ℕ) (y : List ℕ) (k : ℕ) → length y ≡ k → {m : List ℕ} → m ≡ pasted l q y
            → q + length y ≤ length l → Adds l (Some q) m (Some (q + k)) y
        copied_adds l q y k n o h = record {
          size = ap length o ∙ pasted_long l q y h;
          full = λ x. full_at (sym x);
          next = λ p x u. let r : q ≡ p = at_at x in ap Some (omega (arith, r, n));
          holds = λ p x u. let r : q ≡ p = at_at x in rw (← r) o;
          over = λ p x u v. absurd (let r : q ≡ p = at_at x in omega arith);
        }
