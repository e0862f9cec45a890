-- Law. A trip's updates sought where they stand.
use Rattle.std.specs.Prelude.{◌≡◌, refl, Bool, true, false, List, ℕ, ◌-◌, ◌<◌, eqb, take, drop, Option, Some, None}
use Rattle.std.proofs.Common.{sym, ap, ◌∙◌, eq-eqb, ne_eqb}
use Rattle.formats.specs.Format.{number, ◌&◌}
use Rattle.formats_write.specs.Promises.Given.{given_number}
use Rattle.formats_write.specs.Laws.Slices.{slice_is}
use Rattle.formats_read.specs.Promises.Reads.{ReadsNumber, ReadsText}
use Rattle.formats_read.specs.Laws.Here.{halves, number_here}
use Rattle.formats_skip.specs.Promises.Passes.{Passes, Leads}
use Rattle.formats_skip.specs.Laws.Passes.{any_number, pair}
use Rattle.formats_skip.specs.Laws.Leads.{lead_field}
use Rattle.decode.specs.Trip.{number32, trip, stop_update, updates_of}
use Rattle.overlay.specs.Lookup.{stop_matches, stop_update_by_stop_id, find_stop_update}
use Rattle.overlay_ids.specs.Promises.Ids.{StopFits}
use Rattle.overlay_seek.specs.Promises.Answers.{Tests, Seeks}
use Rattle.overlay_seek.specs.Laws.Answers.{reworded, first_found, second_found}
use Rattle.overlay_seek.specs.Laws.First.{get_number}
use Rattle.overlay_seek.specs.Laws.Seek.{Seeking, seek_on, seek_hit}
use Rattle.overlay_updates.specs.Promises.Updates.{StopTold, numbered, stopping}
use Rattle.overlay_updates.specs.Promises.Updates.{BySequence, ByStop, FindsUpdate}

-- past a number that was read
number_passed : {s : List ℕ} {p k m : ℕ} → ReadsNumber s p k m → Passes number32 s p m
number_passed N = record { to = λ h. N.next (number_here h) }

-- by the sequence
module _ {s : List ℕ} {p k m : ℕ} (N : ReadsNumber s p k m) where
  sequence_told : (n : ℕ) (b : Bool) → eqb k n ≡ b → Tests (number32 & stop_update) (numbered n) s p b
  sequence_told n b e = record {
    to = λ h. sym e ∙ ap (λ j. eqb j n) (N.value (number_here (halves h).first));
  }

  module _ {n x c left : ℕ} (S : Seeking (number32 & stop_update) (numbered n) s x c p left) (z : 0 < left) where
    pub sequence_hit : {at : ℕ} → k ≡ n → ReadsNumber s at c x → Seeks number32 stop_update (numbered n) s at (Some m)
    sequence_hit e C = seek_hit S C z (sequence_told n true (eq-eqb k n e)) refl (number_passed N)

    pub sequence_on : {e : ℕ} → (k ≡ n → ⊥) → Passes stop_update s m e
        → Seeking (number32 & stop_update) (numbered n) s x c e (left - 1)
    sequence_on f P = seek_on S z (sequence_told n false (ne_eqb k n f)) refl (pair (number_passed N) P)

-- by the stop id
module _ {s : List ℕ} {f y : List ℕ} {p m : ℕ} (P : Passes (number 0 0) s p m) {r : Bool} (T : StopTold s m f y r) where
  stop_told : Tests (number32 & stop_update) (stopping f y) s p r
  stop_told = record {
    to = λ {v} {q} h.
        let x = halves h in
        let e = (any_number P).to x.first in
        T.to {u = v.1} {q = q} (rw e x.second);
  }

  module _ {x c left : ℕ} (S : Seeking (number32 & stop_update) (stopping f y) s x c p left) (z : 0 < left) where
    pub stop_hit : {at : ℕ} → r ≡ true → ReadsNumber s at c x → Seeks number32 stop_update (stopping f y) s at (Some m)
    stop_hit e C = seek_hit S C z stop_told e (any_number P)

    pub stop_on : {e : ℕ} → r ≡ false → Passes stop_update s m e
        → Seeking (number32 & stop_update) (stopping f y) s x c e (left - 1)
    stop_on e Q = seek_on S z stop_told e (pair (any_number P) Q)

-- the stop id of an update, read
pub stop_read : {s : List ℕ} {p a e : ℕ} {f y : List ℕ} {r : Bool} → ReadsText s p a e
    → StopFits f (take (e - a) (drop a s)) y r → StopTold s p f y r
unfolding stop_matches
stop_read {s} {p} {a} {e} {f} {y} T I = record {
  to = λ h. let i = slice_is a e s T.forward T.within ∙ T.bytes (halves h).first in (rw i at I).is;
}

-- the updates of a trip
module _ {s : List ℕ} {p m : ℕ} (L : Leads 6 trip s p m) {r : Option ℕ} where
  pub by_sequence : {n : ℕ} → Seeks number32 stop_update (numbered n) s m r → BySequence s p n r
  by_sequence {n} S = record {
    to = λ {t} h. reworded (get_number n (updates_of t)) (S.to (lead_field L tt h).here);
  }

  pub by_stop : {f y : List ℕ} → Seeks number32 stop_update (stopping f y) s m r → ByStop s p f y r
  unfolding stop_update_by_stop_id
  by_stop {f} {y} S = record { to = λ {t} h. S.to (lead_field L tt h).here }

-- by one, else by the other
module _ {s : List ℕ} {p : ℕ} {f y : List ℕ} {r : Option ℕ} {o : Option ℕ} where
  pub no_sequence : o ≡ None → ByStop s p f y r → FindsUpdate s p f (given_number o) y r
  unfolding find_stop_update
  no_sequence a B = record { to = λ h. rw a (B.to h) }

  pub sequence_missing : {n : ℕ} {k : Option ℕ} → o ≡ Some n → BySequence s p n k → k ≡ None → ByStop s p f y r
      → FindsUpdate s p f (given_number o) y r
  unfolding find_stop_update
  sequence_missing a A e B = record { to = λ h. rw a (second_found (A.to h) e (B.to h)) }

pub sequence_found : {s : List ℕ} {p q n : ℕ} {f y : List ℕ} {k : Option ℕ} {o : Option ℕ} → o ≡ Some n
    → BySequence s p n k → k ≡ Some q → FindsUpdate s p f (given_number o) y (Some q)
unfolding find_stop_update
sequence_found {f} {y} a A e = record {
  to = λ {t} h. rw a (first_found (stop_update_by_stop_id f y t) (A.to h) e);
}
