-- Law. A walk that looks for a place among values that stand one after another: each that it passed is P.
use Rattle.std.specs.Prelude.{◌≡◌, refl, List, [], ◌∷◌, ◌++◌, ℕ, ◌+◌, ◌-◌, ◌≤◌, ◌<◌, length}
use Rattle.std.proofs.Common.{◌∙◌, arith, length-append}
use Rattle.basics.specs.Lists.{All}
use Rattle.formats.specs.Format.{Format, Value}
use Rattle.formats_read.specs.Promises.Here.{Here}
use Rattle.formats_read.specs.Promises.Lists.{Many}
use Rattle.formats_read.specs.Laws.Lists.{run}
use Rattle.formats_read.specs.Laws.Walk.{Walk, begin, onward}
use Rattle.formats_skip.specs.Promises.Passes.{Passes}

-- the values behind p
pub record Behind (f : Format) (P : Value f → Type 0) (s : List ℕ) (a p i : ℕ) (us : List (Value f)) : Type 0 where
  pub rank : length us ≡ i
  pub run : a ≤ length s → Many f s a p us
  pub so : All P us

pub record Looking (f : Format) (P : Value f → Type 0) (s : List ℕ) (a n p left i : ℕ) : Type 0 where
  pub walk : Walk f s a n p left (Behind f P s a p i)

many_more : (f : Format) (s : List ℕ) (a p e : ℕ) (v : Value f) (us : List (Value f)) → Many f s a p us
    → Here f s p e v → Many f s a e (us ++ (v ∷ []))
many_more f s a p e v [] h x = let k = h.0 in (e, rw k x, (refl, x.within))
many_more f s a p e v (u ∷ us) h x = (h.0, h.1, many_more f s h.0 p e v us h.2 x)

all_more : {A : Type 0} (P : A → Type 0) (us : List A) (v : A) → All P us → P v → All P (us ++ (v ∷ []))
all_more P [] v h x = (x, tt)
all_more P (u ∷ us) v h x = (h.0, all_more P us v h.1 x)

-- where the walk stops: what is behind it, and what is ahead
pub record Stopped (f : Format) (P : Value f → Type 0) (s : List ℕ) (a q : ℕ) (vs : List (Value f)) (p left i : ℕ) :
    Type 0 where
  pub front : List (Value f)
  pub back : List (Value f)
  pub joined : front ++ back ≡ vs
  pub rank : length front ≡ i
  pub count : length back ≡ left
  pub passed : Many f s a p front
  pub ahead : Many f s p q back
  pub so : All P front

module _ {f : Format} {P : Value f → Type 0} {s : List ℕ} {a n : ℕ} where
  pub look_start : Looking f P s a n a n 0
  look_start = record { walk = begin (record { rank = refl; run = λ h. (refl, h); so = tt }) }

  module _ {p left i : ℕ} (L : Looking f P s a n p left i) where
    pub look_on : {e : ℕ} → 0 < left → Passes f s p e → ((v : Value f) (q : ℕ) → Here f s p q v → P v)
        → Looking f P s a n e (left - 1) (i + 1)
    look_on {e} z E so = record {
      walk = onward L.walk e z (λ v q h. E.to h)
          (λ us v d h. record {
            rank = length-append us (v ∷ []) ∙ omega (arith, d.rank);
            run = λ w. many_more f s a p e v us (d.run w) h;
            so = all_more P us v d.so (so v e h);
          });
    }

    pub look_stop : {q : ℕ} (vs : List (Value f)) → length vs ≡ n → Many f s a q vs → Stopped f P s a q vs p left i
    look_stop {q} vs c m =
        let A = L.walk.at vs q c m in
        let r = run f s a q vs m in
        record {
          front = A.behind;
          back = A.ahead;
          joined = A.joined;
          rank = A.so.rank;
          count = A.count;
          passed = A.so.run (omega (arith, r.forward, r.within));
          ahead = A.stand;
          so = A.so.so;
        }
