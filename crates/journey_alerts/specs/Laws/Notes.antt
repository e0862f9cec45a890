-- Law. Labels noted one after another.
use Rattle.std.specs.Prelude.{◌≡◌, refl, Bool, true, false, List, [], ◌∷◌, ◌++◌, map, ℕ, suc, ◌-◌, ◌≤◌, ◌<◌, leb, length, drop}
use Rattle.std.proofs.Common.{sym, ap, ◌∙◌, arith, length-drop, length-take-le, leb-true, leb-false}
use Rattle.std.specs.declared.cmp.Ordering.{Ordering}
use Rattle.std.specs.declared.cmp.Ordering.TheVariants.{Less, Equal, Greater}
use Rattle.maps.specs.Map.{by_order, put, puts}
use Rattle.maps.specs.Order.{texts}
use Rattle.decode_slots.specs.Index.{Place}
use Rattle.decode_slots.specs.Places.{bytes_in}
use Rattle.journey.proofs.Laws.Headers.{Entry, entry}
use Rattle.journey_labels.specs.Promises.Labels.{most_labels, Inside, labels, SoundLabels, LabelNoted}
use Rattle.journey_labels.specs.Laws.Labels.{count_of}
use Rattle.journey_alerts.specs.Promises.Alerts.{Notes, nonempty, LabelAdded}

-- a map does not shrink
put_longer : (k : List ℕ) (m : List Entry) → length m ≤ length (put texts k tt m)
put_longer k [] = omega arith
put_longer k (e ∷ m) = go (texts.compare k e.0) (put_longer k m)
  where
    go : (o : Ordering) → length m ≤ length (put texts k tt m)
        → suc (length m) ≤ length (by_order o ((k, tt) ∷ e ∷ m) ((k, tt) ∷ m) (e ∷ put texts k tt m))
    go Less h = omega arith
    go Equal h = omega arith
    go Greater h = omega arith

puts_longer : (l : List (List ℕ)) (m : List Entry) → length m ≤ length (puts texts (map entry l) m)
puts_longer [] m = omega arith
puts_longer (x ∷ l) m = omega (arith, put_longer x m, puts_longer l (put texts x tt m))

puts_join : (k l : List (List ℕ)) (m : List Entry)
    → puts texts (map entry (k ++ l)) m ≡ puts texts (map entry l) (puts texts (map entry k) m)
puts_join [] l m = refl
puts_join (x ∷ k) l m = puts_join k l (put texts x tt m)

-- none
pub notes_none : {b f g : List ℕ} {n : ℕ} → Notes b f g n f g n []
notes_none {b} {f} {g} {n} = record {
  grows = omega arith;
  noted = λ h. refl;
  over = λ h. omega (arith, count_of b f g n);
}

-- some, and then others
module _ {b f g : List ℕ} {n : ℕ} {f' g' : List ℕ} {n' : ℕ} {f'' g'' : List ℕ} {n'' : ℕ} {k l : List (List ℕ)} where
  pub notes_then : Notes b f g n f' g' n' k → Notes b f' g' n' f'' g'' n'' l → Notes b f g n f'' g'' n'' (k ++ l)
  notes_then A B = record {
    grows = omega (arith, A.grows, B.grows);
    noted = λ h.
        B.noted h ∙ ap (puts texts (map entry l)) (A.noted (omega (arith, B.grows)))
        ∙ sym (puts_join k l (labels b f g n));
    over = λ h. rw (puts_join k l (labels b f g n)) (go h (leb n' most_labels) refl);
  }
    where
      go : most_labels < n'' → (x : Bool) → leb n' most_labels ≡ x
          → most_labels < length (puts texts (map entry l) (puts texts (map entry k) (labels b f g n)))
      go h true e = rw (A.noted (leb-true n' most_labels e)) at (B.over h)
      go h false e =
          omega (
            arith,
            A.over (leb-false n' most_labels e),
            puts_longer l (puts texts (map entry k) (labels b f g n)),
          )

-- one
notes_one : {b f g : List ℕ} {n : ℕ} {p : Place} {f' g' : List ℕ} {r : ℕ} → LabelNoted b f g n p f' g' r
    → Notes b f g n f' g' r (bytes_in b p ∷ [])
notes_one {b} {f} {g} {n} {p} {f'} {g'} {r} N =
    let e : r ≡ length (put texts (bytes_in b p) tt (labels b f g n)) =
    sym (count_of b f' g' r) ∙ ap length N.map in
    record {
      grows = omega (arith, put_longer (bytes_in b p) (labels b f g n), count_of b f g n);
      noted = λ h. N.map;
      over = λ h. omega arith;
    }

-- there is no room
notes_full : {b f g : List ℕ} {n : ℕ} (l : List (List ℕ)) → most_labels < n → Notes b f g n f g n l
notes_full {b} {f} {g} {n} l h = record {
  grows = omega arith;
  noted = λ i. absurd (omega arith);
  over = λ i. omega (arith, count_of b f g n, puts_longer l (labels b f g n));
}

some_bytes : (x : List ℕ) → 0 < length x → nonempty (x ∷ []) ≡ x ∷ []
some_bytes [] h = absurd (omega arith)
some_bytes (a ∷ x) h = refl

-- a label is added
module _ {b f g : List ℕ} {n from to : ℕ} (S : SoundLabels b f g n) where
  pub added_empty : to ≤ from → LabelAdded b f g n (from, to) f g n
  added_empty h = record {
    sound = S;
    notes = let z : to - from ≡ 0 = omega arith in rw z notes_none;
  }

  pub added_full : most_labels < n → LabelAdded b f g n (from, to) f g n
  added_full h = record { sound = S; notes = notes_full (nonempty (bytes_in b (from, to) ∷ [])) h }

  pub added_one : {f' g' : List ℕ} {r : ℕ} → from < to → Inside b (from, to) → LabelNoted b f g n (from, to) f' g' r
      → LabelAdded b f g n (from, to) f' g' r
  added_one {f'} {g'} {r} h i N = record {
    sound = N.sound;
    notes = let e = some_bytes (bytes_in b (from, to)) (long (from, to) h i) in
        rw (← e) at (notes_one N);
  }
    where
      long : (p : Place) → p.0 < p.1 → Inside b p → 0 < length (bytes_in b p)
      long p h i =
          omega (
            arith,
            length-take-le (p.1 - p.0) (drop p.0 b) (omega (arith, i.1, length-drop p.0 b)),
          )
