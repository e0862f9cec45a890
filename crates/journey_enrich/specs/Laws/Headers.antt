-- Law. The labels that were noted, written one after another.
use Rattle.std.specs.Prelude.{◌≡◌, refl, List, [], ◌∷◌, ◌++◌, ℕ, zero, suc, ◌+◌, ◌≤◌, ◌<◌, length, get_or, drop, Option}
use Rattle.std.proofs.Common.{sym, ap, ◌∙◌, arith, get_or-drop}
use Rattle.std.proofs.Math.Seq.{slice}
use Rattle.formats.specs.Number.{number_w}
use Rattle.formats.specs.Readers.{many_w}
use Rattle.formats_write.specs.Promises.Adds.{Adds}
use Rattle.formats_write.specs.Promises.Given.{text_w}
use Rattle.formats_write.specs.Laws.Adds.{none, then, same}
use Rattle.formats_write.specs.Laws.Slices.{slice_is}
use Rattle.formats_read.specs.Laws.Progress.{one_more}
use Rattle.journey.specs.Enrich.{keys}
use Rattle.journey_labels.specs.Promises.Labels.{Labels, labels, label_at}
use Rattle.journey_labels.specs.Laws.Labels.{count_of, inside_at}
use Rattle.journey_enrich.specs.Promises.Enrich.{HeadersUpTo, HeadersPut}

-- one label more, at the end
more : (o : List ℕ) (i : ℕ) (f t : List ℕ)
    → keys (labels o f t (i + 1)) ≡ keys (labels o f t i) ++ (label_at o f t i ∷ [])
more o zero f t = refl
more o (suc i) f t =
    let e : suc i + 1 ≡ suc (i + 1) = omega arith in
    let d : 1 + i ≡ suc i = omega arith in
    rw e (ap (λ l. label_at o f t 0 ∷ l) (more o i (drop 1 f) (drop 1 t)
    ∙ rw (get_or-drop 1 f i 0, get_or-drop 1 t i 0, d) refl))

keys_length : (l : Labels) → length (keys l) ≡ length l
keys_length [] = refl
keys_length (e ∷ l) = ap suc (keys_length l)

module _ {b f t : List ℕ} {n : ℕ} {l : List ℕ} {w : Option ℕ} where
  pub headers_begin : HeadersUpTo 0 b f t n l w l w
  headers_begin = record { adds = λ S. none }

  pub headers_step : {i : ℕ} {m m' : List ℕ} {k k' : Option ℕ} {a e : ℕ} → HeadersUpTo i b f t n l w m k → i < n
      → a ≡ get_or f i 0 → e ≡ get_or t i 0 → (a ≤ e → e ≤ length b → Adds m k m' k' (text_w (slice a e b)))
      → HeadersUpTo (i + 1) b f t n l w m' k'
  headers_step {i} {a = a} {e} H h x y A = record {
    adds = λ S.
        let p = inside_at S i h in
        let z = A (rw (x, y) p.0) (rw y p.1) in
        let c : slice a e b ≡ label_at b f t i =
        rw (x, y) (sym (slice_is (get_or f i 0) (get_or t i 0) b p.0 p.1)) in
        same (then (H.adds S) (same z (ap text_w c)))
        (one_more text_w (keys (labels b f t i)) (label_at b f t i) ∙ ap (many_w text_w) (sym (more b i f t)));
  }

  pub headers_end : {i : ℕ} {m : List ℕ} {k : Option ℕ} → HeadersUpTo i b f t n l w m k → i ≤ n → n ≤ i
      → HeadersUpTo n b f t n l w m k
  headers_end {i} H h g = let e : i ≡ n = omega arith in rw e at H

  pub headers_none : {m : List ℕ} {r : Option ℕ} → length f < n → HeadersPut b f t n l w m r
  headers_none h = record { adds = λ S. absurd (omega (arith, S.counted, S.long_from)) }

  pub headers_few : {m : List ℕ} {r : Option ℕ} → length t < n → HeadersPut b f t n l w m r
  headers_few h = record { adds = λ S. absurd (omega (arith, S.counted, S.long_to)) }

  pub headers_put : {m o : List ℕ} {q r : Option ℕ} → Adds l w m q (number_w n) → HeadersUpTo n b f t n m q o r
      → HeadersPut b f t n l w o r
  headers_put A H = record {
    adds = λ S.
        let c : n ≡ length (keys (labels b f t n)) = sym (keys_length (labels b f t n) ∙ count_of b f t n) in
        then (same A (ap number_w c)) (H.adds S);
  }
