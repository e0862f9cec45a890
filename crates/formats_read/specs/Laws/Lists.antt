-- Law. A loop that reaches the value i of a list.
use Rattle.std.specs.Prelude.{◌≡◌, refl, List, [], ◌∷◌, ◌++◌, true, ℕ, ◌+◌, ◌≤◌, ◌<◌, length}
use Rattle.std.proofs.Common.{sym, ap, ◌∙◌, append_assoc, append-nil, arith, length-append}
use Rattle.std.proofs.Math.Seq.{slice, slice_empty, length-slice}
use Rattle.formats.specs.Readers.{many_w}
use Rattle.basics.specs.Lists.{All}
use Rattle.formats.specs.Format.{Format, number, list, Value, write, Fits, takes}
use Rattle.formats_write.specs.Laws.Slices.{slice_join}
use Rattle.formats_read.specs.Laws.Here.{meet}
use Rattle.formats_read.specs.Promises.Here.{Here}
use Rattle.formats_read.specs.Promises.Lists.{Many, Listed, Split, Reaches}

slice_none : (s : List ℕ) (p q : ℕ) → slice p q s ≡ [] → p ≤ q → q ≤ length s → p ≡ q
slice_none s p q e h k = omega (arith, sym (length-slice p q s k) ∙ ap length e)

many : (f : Format) (s : List ℕ) (p q : ℕ) (vs : List (Value f)) → slice p q s ≡ many_w (write f) vs
    → All (λ v. Fits f v × (takes f v ≡ true)) vs → p ≤ q → q ≤ length s → Many f s p q vs
many f s p q [] e a h k = (slice_none s p q e h k, k)
many f s p q (v ∷ vs) e a h k =
    let m = meet s p q (write f v) (many_w (write f) vs) e h k in (
      p + length (write f v),
      record { written = m.first; fits = a.0.0; forward = m.after; within = omega (arith, m.before) },
      many f s (p + length (write f v)) q vs m.second a.1 m.before k,
    )

pub listed : {l : ℕ} {f : Format} {s : List ℕ} {p q : ℕ} {vs : List (Value f)} → Here (list l f) s p q vs
    → (m : ℕ) × Listed f s p q vs m
listed {l} {f} {s} {p} {q} {vs} h =
    let m = meet s p q (write (number 0 0) (length vs)) (many_w (write f) vs) h.written h.forward h.within in (
      _,
      record {
        count = record {
          written = m.first;
          fits = h.fits.0;
          forward = m.after;
          within = omega (arith, m.before, h.within);
        };
        values = many f s _ q vs m.second h.fits.1 m.before h.within;
      },
    )

-- the bytes of a run of values
pub record Run (f : Format) (s : List ℕ) (p q : ℕ) (vs : List (Value f)) : Type 0 where
  pub forward : p ≤ q
  pub within : q ≤ length s
  pub written : slice p q s ≡ many_w (write f) vs

pub run : (f : Format) (s : List ℕ) (p q : ℕ) (vs : List (Value f)) → Many f s p q vs → Run f s p q vs
run f s p q [] h = let e = h.0 in
    record { forward = omega arith; within = h.1; written = rw (e, slice_empty q s) refl }
run f s p q (v ∷ vs) h =
    let r = run f s h.0 q vs h.2 in
    record {
      forward = omega (arith, h.1.forward, r.forward);
      within = r.within;
      written =
          sym (slice_join p h.0 q s h.1.forward r.forward r.within) ∙ rw (h.1.written, r.written) refl;
    }

snoc : (f : Format) (s : List ℕ) (a p e : ℕ) (v : Value f) (us : List (Value f)) → Many f s a p us → Here f s p e v
    → Many f s a e (us ++ (v ∷ []))
snoc f s a p e v [] h x = let k = h.0 in (e, rw k x, (refl, x.within))
snoc f s a p e v (u ∷ us) h x = (h.0, h.1, snoc f s h.0 p e v us h.2 x)

-- the writing of two lists joined
pub many_append : {A : Type 0} (g : A → List ℕ) (xs ys : List A) → many_w g (xs ++ ys) ≡ many_w g xs ++ many_w g ys
many_append g [] ys = refl
many_append g (x ∷ xs) ys =
    ap (λ l. g x ++ l) (many_append g xs ys) ∙ sym (append_assoc (g x) (many_w g xs) (many_w g ys))

module _ {f : Format} {s : List ℕ} {a : ℕ} where
  pub reach_start : Reaches f s a 0 a
  reach_start = record {
    splits = λ vs q l h. let r = run f s a q vs h in
        record {
          front = [];
          back = vs;
          joined = refl;
          count = refl;
          passed = (refl, omega (arith, r.forward, r.within));
          ahead = h;
        };
  }

  split_step : (vs : List (Value f)) (q i r e : ℕ) (xs ys : List (Value f)) → xs ++ ys ≡ vs → length xs ≡ i
      → Many f s a r xs → Many f s r q ys → i < length vs
      → ((v : Value f) (q : ℕ) → Here f s r q v → e ≡ q) → Split f s a q vs (i + 1) e
  split_step vs q i r e xs [] j c p b l ends = absurd (omega (arith, ap length (sym (append-nil xs) ∙ j)))
  split_step vs q i r e xs (y ∷ ys) j c p b l ends =
      let k : e ≡ b.0 = ends y b.0 b.1 in
      record {
        front = xs ++ (y ∷ []);
        back = ys;
        joined = append_assoc xs (y ∷ []) ys ∙ j;
        count = length-append xs (y ∷ []) ∙ omega arith;
        passed = rw k (snoc f s a r b.0 y xs p b.1);
        ahead = rw k b.2;
      }

  pub reach_step : {i r : ℕ} (e : ℕ) → Reaches f s a i r → ((v : Value f) (q : ℕ) → Here f s r q v → e ≡ q)
      → Reaches f s a (i + 1) e
  reach_step {i} {r} e R ends = record {
    splits = λ vs q l h.
        let S = R.splits vs q (omega arith) h in
        split_step vs q i r e S.front S.back S.joined S.count S.passed S.ahead (omega arith) ends;
  }

pub reach_stop : {f : Format} {s : List ℕ} {a j i r : ℕ} → Reaches f s a j r → j ≤ i → i ≤ j → Reaches f s a i r
reach_stop {j} {i} R h k = let e : j ≡ i = omega arith in rw (← e) R
