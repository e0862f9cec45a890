-- Law. Checked reading of values one after another, and of a list of them.
use Rattle.std.specs.Prelude.{◌≡◌, refl, List, [], ◌∷◌, Bool, true, false, cond, ℕ, zero, suc, ◌-◌, ◌≤◌, ◌<◌, length, drop, Option, Some, None}
use Rattle.std.proofs.Common.{ap, ◌∙◌, arith, le-leb, lt-ltb}
use Rattle.std.proofs.Math.Option.{none, some}
use Rattle.std.proofs.lemmas.Bool.{lt-leb}
use Rattle.formats.specs.Readers.{bind, only_r, many_r}
use Rattle.formats.specs.Laws.Law.{many_law}
use Rattle.basics.specs.Lists.{all}
use Rattle.formats.specs.Format.{Format, list, Value, read, write, takes}
use Rattle.formats.specs.Laws.Format.{law, element_law, nonempty, takes_nonempty}
use Rattle.formats.specs.Promises.Outcome.{skipped, element}
use Rattle.formats.proofs.Numbers.{place}
use Rattle.formats_check.specs.Promises.Checked.{Number, Checked, fine, Fine, Walk, runs, Walked, Ahead}
use Rattle.formats_check.specs.Laws.Checked.{Out, filter, Missed, absent, refused, missed, good, is_none}
use Rattle.formats_check.specs.Laws.Elements.{no_number, a_number}

-- VALUES ONE AFTER ANOTHER
module _ (f : Format) {S : Type 0} (w : Walk S (Value f)) (k : S) (s : List ℕ) (at : ℕ) where
  pub walk_end : (n : ℕ) → n ≤ 0 → at ≤ length s → w.last k ≡ true → Walked f w k n s at (Some at)
  walk_end zero z h t = record { says = rw (t, place s at h) refl }
  walk_end (suc n) z h t = absurd (omega arith)

  pub walk_bad : (n : ℕ) → n ≤ 0 → w.last k ≡ false → Walked f w k n s at None
  walk_bad zero z t = record { says = rw t refl }
  walk_bad (suc n) z t = absurd (omega arith)

  pub walk_no : (n : ℕ) → 0 < n → Missed (w.test k) (read f (drop at s)) → Walked f w k n s at None
  walk_no zero z m = absurd (omega arith)
  walk_no (suc n) z (absent i) = record { says = rw i refl }
  walk_no (suc n) z (refused x i t) = record { says = rw i (go (many_r (read f) n x.1)) }
    where
      go : (o : Out (List (Value f)))
          → None ≡ skipped s (filter (runs w k) (bind o (λ v u. some (x.0 ∷ v, u))))
      go none = refl
      go (some y) = rw t refl

  pub walk_on : (n : ℕ) → 0 < n → (a : Value f) (p : ℕ) → read f (drop at s) ≡ some (a, drop p s)
      → w.test k a ≡ true → (x : Option ℕ) → Walked f w (w.next k a) (n - 1) s p x → Walked f w k n s at x
  walk_on zero z a p i t x W = absurd (omega arith)
  walk_on (suc n) z a p i t x W =
      let q : suc n - 1 ≡ n = omega arith in
      record {
        says =
            rw i
            (W.says ∙ ap (λ n. skipped s (only_r (runs w (w.next k a)) (many_r (read f) n) (drop p s))) q
            ∙ go (many_r (read f) n (drop p s)));
      }
    where
      go : (o : Out (List (Value f))) → skipped s (filter (runs w (w.next k a)) o)
          ≡ skipped s (filter (runs w k) (bind o (λ v u. some (a ∷ v, u))))
      go none = refl
      go (some y) = rw t (end (runs w (w.next k a) y.0))
        where
          end : (q : Bool) → skipped s (cond {A = Out (List (Value f))} q (some (y.0, y.1)) none)
              ≡ skipped s (cond {A = Out (List (Value f))} q (some (a ∷ y.0, y.1)) none)
          end true = refl
          end false = refl

-- an element of a format whose every value takes a byte
element_is : (f : Format) → nonempty f ≡ true → (s : List ℕ) → element f s ≡ read f s
element_is f h s = go (read f s)
  where
    go : (o : Out (Value f)) → filter (takes f) o ≡ o
    go none = refl
    go (some x) = rw (lt-ltb 0 (length (write f x.0)) (takes_nonempty f x.0 h)) refl

elements_are : (f : Format) → nonempty f ≡ true → (n : ℕ) (s : List ℕ) → many_r (element f) n s ≡ many_r (read f) n s
elements_are f h zero s = refl
elements_are f h (suc n) s = rw (element_is f h s) (go (read f s) (elements_are f h n))
  where
    go : (o : Out (Value f)) → ((t : List ℕ) → many_r (element f) n t ≡ many_r (read f) n t)
        → bind o (λ a t. bind (many_r (element f) n t) (λ v u. some (a ∷ v, u)))
        ≡ bind o (λ a t. bind (many_r (read f) n t) (λ v u. some (a ∷ v, u)))
    go none i = refl
    go (some x) i = rw (i x.1) refl

-- A LIST, whose good values are those that a walk finds good
module _ (l : ℕ) {f : Format} (P : List (Value f) → Bool) (w : nonempty f ≡ true) {s : List ℕ} {at : ℕ}
    {o : Option (ℕ × ℕ)}
    (e : Number s at o) where
  pub list_no : o ≡ None → Checked (list l f) P s at None
  list_no h = is_none (list l f) P s at (rw (no_number e h) refl)

  module _ {n p : ℕ} (h : o ≡ Some (n, p)) where
    pub list_over : ((v : List (Value f)) → l < length v → P v ≡ false) → l < n → Checked (list l f) P s at None
    list_over t k = record { says = rw (a_number e h).reads (go (many_r (element f) n (drop p s)) refl) }
      where
        go : (o : Out (List (Value f))) → many_r (element f) n (drop p s) ≡ o → None ≡ skipped s (filter P o)
        go none i = refl
        go (some y) i =
            rw (t y.0 (omega (arith, ((many_law (element_law f) n).back (drop p s) y.0 y.1 i).1.0))) refl

    pub list_so : {S : Type 0} {W : Walk S (Value f)} {k : S} {x : Option ℕ}
        → ((v : List (Value f)) → length v ≡ n → P v ≡ runs W k v) → Walked f W k n s p x → Checked (list l f) P s at x
    list_so {S} {W} {k} {x} t g =
        record {
          says = rw ((a_number e h).reads, elements_are f w n (drop p s)) (g.says
              ∙ go (many_r (read f) n (drop p s)) refl);
        }
      where
        go : (o : Out (List (Value f))) → many_r (read f) n (drop p s) ≡ o
            → skipped s (filter (runs W k) o) ≡ skipped s (filter P o)
        go none i = refl
        go (some y) i = rw (t y.0 ((many_law (law f) n).back (drop p s) y.0 y.1 i).1.0) refl

-- A LIST WHOSE ANNOTATIONS HOLD
abbrev pub each : (f : Format) → Walk (Unit {0}) (Value f)
each f = record { test = λ k v. fine f v; next = λ k v. tt; last = λ k. true }

each_runs : (f : Format) (v : List (Value f)) → all (fine f) v ≡ runs (each f) tt v
each_runs f [] = refl
each_runs f (a ∷ v) = rw (each_runs f v) refl

pub record Each (f : Format) (n : ℕ) (s : List ℕ) (at : ℕ) (r : Option ℕ) : Type 0 where
  pub is : Walked f (each f) tt n s at r

pub record Eaching (f : Format) (n : ℕ) (s : List ℕ) (at left p : ℕ) : Type 0 where
  pub is : Ahead f (each f) tt n s at tt left p

pub each_start : (f : Format) (n : ℕ) (s : List ℕ) (at : ℕ) → Eaching f n s at n at
each_start f n s at = record { is = record { on = λ x w. w } }

module _ {f : Format} {n : ℕ} {s : List ℕ} {at left p : ℕ} (A : Eaching f n s at left p) where
  pub each_end : left ≤ 0 → p ≤ length s → Each f n s at (Some p)
  each_end z h = record { is = A.is.on (Some p) (walk_end f (each f) tt s p left z h refl) }

  module _ (z : 0 < left) {x : Option ℕ} (c : Fine f s p x) where
    pub each_no : x ≡ None → Each f n s at None
    each_no h = record { is = A.is.on None (walk_no f (each f) tt s p left z (missed c h)) }

    pub each_so : {q : ℕ} → x ≡ Some q → Eaching f n s at (left - 1) q
    each_so {q} h =
        let G = good c h in
        record {
          is = record {
            on = λ x w. A.is.on x (walk_on f (each f) tt s p left z G.value q G.reads
                G.fits x w);
          };
        }

module _ {l : ℕ} {f : Format} (w : nonempty f ≡ true) {s : List ℕ} {at : ℕ} {o : Option (ℕ × ℕ)}
    (e : Number s at o) where
  pub all_no : o ≡ None → Fine (list l f) s at None
  all_no h = list_no l (fine (list l f)) w e h

  module _ {n p : ℕ} (h : o ≡ Some (n, p)) where
    pub all_many : l < n → Fine (list l f) s at None
    all_many k = list_over l (fine (list l f)) w e h (λ v m. rw (lt-leb (length v) l m) refl) k

    pub all_so : n ≤ l → {x : Option ℕ} → Each f n s p x → Fine (list l f) s at x
    all_so k W =
        list_so l (fine (list l f)) w e h (λ v i. rw (le-leb (length v) l (omega arith)) (each_runs f v)) W.is
