-- Law. A writing loop over values of one format: for each, bytes are added to an output.
use Rattle.std.specs.Prelude.{◌≡◌, refl, List, [], ◌∷◌, ◌++◌, map, ℕ, ◌-◌, ◌≤◌, ◌<◌, length, Option}
use Rattle.std.proofs.Common.{sym, ap, ◌∙◌, append-nil}
use Rattle.std.proofs.lemmas.List.{length-map}
use Rattle.formats.specs.Readers.{many_w}
use Rattle.formats.specs.Number.{number_w}
use Rattle.formats.specs.Format.{Format, list, Value, write}
use Rattle.formats_write.specs.Laws.Adds.{none, then, same}
use Rattle.formats_write.specs.Promises.Adds.{Adds}
use Rattle.formats_read.specs.Promises.Here.{Here}
use Rattle.formats_read.specs.Laws.Lists.{many_append, listed}
use Rattle.formats_read.specs.Promises.Lists.{Many}
use Rattle.formats_read.specs.Promises.Reads.{ReadsNumber}
use Rattle.formats_read.specs.Laws.Walk.{Walk, begin, onward, ended}

-- the output went from l and r to m and k: g is what is added for a value
abbrev pub Progress : (f : Format) (g : Value f → List ℕ) (s : List ℕ) (a n p left : ℕ) (l : List ℕ) (r : Option ℕ)
    (m : List ℕ) (k : Option ℕ) → Type 0
Progress f g s a n p left l r m k = Walk f s a n p left (λ us. Adds l r m k (many_w g us))

pub one_more : {A : Type 0} (g : A → List ℕ) (us : List A) (v : A) → many_w g us ++ g v ≡ many_w g (us ++ (v ∷ []))
one_more g us v = sym (many_append g us (v ∷ []) ∙ ap (λ l. many_w g us ++ l) (append-nil (g v)))

module _ {f : Format} (g : Value f → List ℕ) {s : List ℕ} {a n : ℕ} {l : List ℕ} {r : Option ℕ} where
  pub start : Progress f g s a n a n l r l r
  start = begin none

  pub step : {p left : ℕ} {m : List ℕ} {k : Option ℕ} {m' : List ℕ} {k' : Option ℕ} (e : ℕ)
      → Progress f g s a n p left l r m k
      → 0 < left
      → ((v : Value f) (q : ℕ) → Here f s p q v → e ≡ q) → ((v : Value f) → Here f s p e v → Adds m k m' k' (g v))
      → Progress f g s a n e (left - 1) l r m' k'
  step e W z ends adds = onward W e z ends (λ us v d h. same (then d (adds v h)) (one_more g us v))

  pub stop : {p left : ℕ} {m : List ℕ} {k : Option ℕ} → Progress f g s a n p left l r m k → left ≤ 0
      → (vs : List (Value f)) (q : ℕ) → length vs ≡ n → Many f s a q vs → Adds l r m k (many_w g vs)
  stop W = ended W

-- a list whose values are changed one by one
map_many : {A B : Type 0} (w : B → List ℕ) (h : A → B) (vs : List A) → many_w (λ v. w (h v)) vs ≡ many_w w (map h vs)
map_many w h [] = refl
map_many w h (v ∷ vs) = ap (λ l. w (h v) ++ l) (map_many w h vs)

pub list_mapped : {f : Format} {s : List ℕ} {p q n e : ℕ} {vs : List (Value f)} {l m o : List ℕ} {r k j : Option ℕ}
    (c : ℕ)
    (w : Value f → Value f) → Here (list c f) s p q vs → ReadsNumber s p n e
    → Adds l r m k (number_w n)
    → ((us : List (Value f)) (q : ℕ) → length us ≡ n → Many f s e q us
    → Adds m k o j (many_w (λ v. write f (w v)) us))
    → Adds l r o j (write (list c f) (map w vs))
list_mapped {f} {q} {vs} c w h N a b =
    let x = (listed h).1 in
    let n = N.value x.count in
    let y = N.next x.count in
    same (then (same a (ap number_w n)) (b vs q (sym n) (rw y x.values)))
    (rw (map_many (write f) w vs, length-map vs w) refl)
