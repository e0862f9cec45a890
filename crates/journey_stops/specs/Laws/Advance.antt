-- Law. A writing loop over values of one format of which something is known.
use Rattle.std.specs.Prelude.{◌≡◌, refl, List, [], ◌∷◌, ◌++◌, map, ℕ, ◌-◌, ◌≤◌, ◌<◌, length, Option}
use Rattle.std.proofs.Common.{sym, ap}
use Rattle.std.proofs.lemmas.List.{length-map}
use Rattle.basics.specs.Lists.{All}
use Rattle.formats.specs.Readers.{many_w}
use Rattle.formats.specs.Number.{number_w}
use Rattle.formats.specs.Format.{Format, list, Value, write}
use Rattle.formats_write.specs.Laws.Adds.{none, then, same}
use Rattle.formats_write.specs.Promises.Adds.{Adds}
use Rattle.formats_read.specs.Promises.Here.{Here}
use Rattle.formats_read.specs.Promises.Lists.{Many}
use Rattle.formats_read.specs.Promises.Reads.{ReadsNumber}
use Rattle.formats_read.specs.Laws.Lists.{listed}
use Rattle.formats_read.specs.Laws.Progress.{one_more}
use Rattle.formats_read.specs.Laws.Walk.{Walk, begin, onward, ended}

-- the output went from l and r to m and k, where P holds of the values passed: g is what is added for one
abbrev pub Advance : (f : Format) (P : Value f → Type 0) (g : Value f → List ℕ) (s : List ℕ) (a n p left : ℕ)
    (l : List ℕ) (r : Option ℕ) (m : List ℕ) (k : Option ℕ) → Type 0
Advance f P g s a n p left l r m k = Walk f s a n p left (λ us. All P us → Adds l r m k (many_w g us))

module _ {A : Type 0} (P : A → Type 0) where
  front : (us : List A) (v : A) → All P (us ++ (v ∷ [])) → All P us
  front [] v x = tt
  front (u ∷ us) v x = (x.0, front us v x.1)

  last : (us : List A) (v : A) → All P (us ++ (v ∷ [])) → P v
  last [] v x = x.0
  last (u ∷ us) v x = last us v x.1

module _ {f : Format} {P : Value f → Type 0} (g : Value f → List ℕ) {s : List ℕ} {a n : ℕ} {l : List ℕ}
    {r : Option ℕ} where
  pub start : Advance f P g s a n a n l r l r
  start = begin (λ x. none)

  pub step : {p left : ℕ} {m : List ℕ} {k : Option ℕ} {m' : List ℕ} {k' : Option ℕ} (e : ℕ)
      → Advance f P g s a n p left l r m k
      → 0 < left → ((v : Value f) (q : ℕ) → Here f s p q v → e ≡ q)
      → ((v : Value f) → Here f s p e v → P v → Adds m k m' k' (g v)) → Advance f P g s a n e (left - 1) l r m' k'
  step e W z ends adds =
      onward W e z ends (λ us v d h x. same (then (d (front P us v x)) (adds v h (last P us v x))) (one_more g us v))

  pub stop : {p left : ℕ} {m : List ℕ} {k : Option ℕ} → Advance f P g s a n p left l r m k → left ≤ 0
      → (vs : List (Value f)) (q : ℕ) → length vs ≡ n → Many f s a q vs → All P vs → Adds l r m k (many_w g vs)
  stop W z vs q c m x = ended W z vs q c m x

map_many : {A B : Type 0} (w : B → List ℕ) (h : A → B) (vs : List A) → many_w (λ v. w (h v)) vs ≡ many_w w (map h vs)
map_many w h [] = refl
map_many w h (v ∷ vs) = ap (λ l. w (h v) ++ l) (map_many w h vs)

-- a list whose values are changed one by one
pub list_mapped : {f : Format} (P : Value f → Type 0) {s : List ℕ} {p q n e : ℕ} {vs : List (Value f)} {l m o : List ℕ}
    {r k j : Option ℕ} (c : ℕ) (w : Value f → Value f) → Here (list c f) s p q vs → All P vs → ReadsNumber s p n e
    → Adds l r m k (number_w n)
    → ((us : List (Value f)) (q : ℕ) → length us ≡ n → Many f s e q us → All P us
    → Adds m k o j (many_w (λ v. write f (w v)) us))
    → Adds l r o j (write (list c f) (map w vs))
list_mapped {f} P {q} {vs} c w h x N a b =
    let y = (listed h).1 in
    let n = N.value y.count in
    let z = N.next y.count in
    same (then (same a (ap number_w n)) (b vs q (sym n) (rw z y.values) x))
    (rw (map_many (write f) w vs, length-map vs w) refl)
