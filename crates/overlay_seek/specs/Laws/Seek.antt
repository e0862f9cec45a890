-- Law. A loop that seeks the first of the keys and values standing one after another that passes a test: one law for
-- trips, stop updates and vehicles.
use Rattle.std.specs.Prelude.{◌≡◌, Bool, true, false, List, [], ◌∷◌, ◌++◌, ℕ, ◌-◌, ◌≤◌, ◌<◌, length, Some, None}
use Rattle.std.proofs.Common.{sym, ap, ◌∙◌, arith}
use Rattle.std.proofs.Math.Option.{none}
use Rattle.basics.specs.Options.{or_else}
use Rattle.formats.specs.Format.{Format, ◌&◌, Value}
use Rattle.formats_read.specs.Promises.Lists.{Many}
use Rattle.formats_read.specs.Promises.Reads.{ReadsNumber}
use Rattle.formats_read.specs.Laws.Here.{halves}
use Rattle.formats_read.specs.Laws.Walk.{Walk, begin, onward, ended, of_list}
use Rattle.formats_skip.specs.Promises.Passes.{Passes}
use Rattle.overlay.specs.Lookup.{first_that, value_of}
use Rattle.overlay_seek.specs.Promises.Answers.{Stands, Answers, Tests, Seeks}
use Rattle.overlay_seek.specs.Laws.First.{first_append, first_one, first_none}
use Rattle.overlay_seek.specs.Laws.Answers.{at_place, not_there}

-- n entries from a on: all those before p have failed, and `left` are left
pub record Seeking (f : Format) (t : Value f → Bool) (s : List ℕ) (a n p left : ℕ) : Type 0 where
  pub walk : Walk f s a n p left (λ us. first_that t us ≡ none)

told : {f : Format} {t : Value f → Bool} {s : List ℕ} {p : ℕ} {r b : Bool} → Tests f t s p r → r ≡ b → Tests f t s p b
told T e = rw e at T

module _ {a b : Format} {t : Value (a & b) → Bool} {s : List ℕ} where
  it_stands : (q p m : ℕ) (vs us ws : List (Value (a & b))) → us ++ ws ≡ vs → 0 < length ws → Many (a & b) s p q ws
      → first_that t us ≡ none → Tests (a & b) t s p true → Passes a s p m → Stands b s (value_of (first_that t vs)) m
  it_stands q p m vs us [] j l w d T P = absurd (omega arith)
  it_stands q p m vs us (v ∷ ws) j l w d T P =
      let h = halves w.1 in
      let e = P.to h.first in
      record {
        it = v.1;
        end = w.0;
        here = rw e h.second;
        is = ap value_of (ap (first_that t) (sym j) ∙ first_append t us (v ∷ ws)
            ∙ ap (λ o. or_else o (first_that t (v ∷ ws))) d ∙ first_one t v ws true (sym (T.to w.1)));
      }

  module _ {x n : ℕ} where
    pub seek_start : Seeking (a & b) t s x n x n
    seek_start = record { walk = begin (first_none t) }

    module _ {p left : ℕ} (S : Seeking (a & b) t s x n p left) {r : Bool} where
      -- the entry at hand fails
      pub seek_on : {e : ℕ} → 0 < left → Tests (a & b) t s p r → r ≡ false → Passes (a & b) s p e
          → Seeking (a & b) t s x n e (left - 1)
      seek_on {e} z T f P = record {
        walk = onward S.walk e z (λ v q h. P.to h) (λ us v d h.
            first_append t us (v ∷ []) ∙ ap (λ o. or_else o (first_that t (v ∷ []))) d
            ∙ first_one t v [] false (sym ((told T f).to h)) ∙ first_none t);
      }

      -- it passes, and its value is at m
      pub seek_hit : {at m : ℕ} → ReadsNumber s at n x → 0 < left → Tests (a & b) t s p r → r ≡ true → Passes a s p m
          → Seeks a b t s at (Some m)
      seek_hit {m} N z T f P = record {
        to = λ h. of_list {P = λ vs. Answers b s (value_of (first_that t vs)) (Some m)} h N (λ vs q c w.
            let A = S.walk.at vs q c w in
            at_place (it_stands q p m vs A.behind A.ahead A.joined (omega (arith, A.count)) A.stand
            A.so (told T f) P));
      }

    -- none is left
    pub seek_miss : {p left at : ℕ} → Seeking (a & b) t s x n p left → ReadsNumber s at n x → left ≤ 0
        → Seeks a b t s at None
    seek_miss S N z = record {
      to = λ h. of_list {P = λ vs. Answers b s (value_of (first_that t vs)) None} h N (λ vs q c w.
          not_there (ap value_of (ended S.walk z vs q c w)));
    }
