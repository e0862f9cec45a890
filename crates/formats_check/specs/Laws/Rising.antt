-- Law. Entries by ascending number: the walk knows the least that the next may have.
use Rattle.std.specs.Prelude.{◌≡◌, refl, List, [], ◌∷◌, Bool, true, false, ◌&&◌, ℕ, ◌+◌, ◌-◌, ◌≤◌, ◌<◌, leb, ltb, length, drop, Option, Some, None}
use Rattle.std.proofs.Common.{sym, ap, ◌∙◌, arith, le-leb, ltb-true, ltb-false}
use Rattle.std.proofs.Math.Option.{none, some}
use Rattle.std.proofs.lemmas.Bool.{lt-leb}
use Rattle.formats.specs.Number.{number_r}
use Rattle.formats.specs.Laws.Number.{number_law}
use Rattle.basics.specs.Lists.{all}
use Rattle.formats.specs.Format.{Format, number, list, ◌&◌, Value, read}
use Rattle.formats.proofs.Numbers.{NumberGot, got, bad_none}
use Rattle.slices.specs.Lists.{lex_of}
use Rattle.maps.specs.Map.{is_less, above, ascending}
use Rattle.maps.specs.Order.{numbers}
use Rattle.maps.proofs.Laws.Order.{cons_before, cons_behind, lex_itself}
use Rattle.formats_check.specs.Promises.Checked.{Number, Checked, fine, Walk, runs, Walked, Ahead}
use Rattle.formats_check.specs.Laws.Checked.{Missed, absent, refused, good, missed}
use Rattle.formats_check.specs.Laws.Walks.{walk_end, walk_no, walk_on, list_no, list_over, list_so}
use Rattle.basics.specs.Laws.Booleans.{and_assoc}
use Rattle.formats_check.specs.Laws.Joined.{shuffle}

abbrev pub entry : ℕ → Format → Format
entry hi g = number 0 hi & g

abbrev pub rising : (hi : ℕ) (g : Format) → ℕ → Value (entry hi g) → Bool
rising hi g low e = leb low e.0 && fine (entry hi g) e

abbrev pub rise : (hi : ℕ) (g : Format) → Walk ℕ (Value (entry hi g))
rise hi g = record { test = rising hi g; next = λ low e. e.0 + 1; last = λ low. true }

-- what a walk over entries has found
abbrev pub Rises : (hi : ℕ) (g : Format) → ℕ → ℕ → List ℕ → ℕ → Option ℕ → Type 0
Rises hi g low n s at r = Walked (entry hi g) (rise hi g) low n s at r

abbrev pub Rising : (hi : ℕ) (g : Format) → ℕ → List ℕ → ℕ → ℕ → ℕ → ℕ → Type 0
Rising hi g n s at low left p = Ahead (entry hi g) (rise hi g) 0 n s at low left p

pub rising_start : (hi : ℕ) (g : Format) (n : ℕ) (s : List ℕ) (at : ℕ) → Rising hi g n s at 0 n at
rising_start hi g n s at = record { on = λ x w. w }

module _ {hi : ℕ} {g : Format} {n : ℕ} {s : List ℕ} {at low left p : ℕ} (A : Rising hi g n s at low left p) where
  pub rising_end : left ≤ 0 → p ≤ length s → Rises hi g 0 n s at (Some p)
  rising_end z h = A.on (Some p) (walk_end (entry hi g) (rise hi g) low s p left z h refl)

  module _ (z : 0 < left) {o : Option (ℕ × ℕ)} (e : Number s p o) where
    no : Missed (rising hi g low) (read (entry hi g) (drop p s)) → Rises hi g 0 n s at None
    no m = A.on None (walk_no (entry hi g) (rise hi g) low s p left z m)

    pub rising_no : o ≡ None → Rises hi g 0 n s at None
    rising_no h = no (absent (rw (bad_none s (number_r (drop p s)) o e.says h) refl))

    module _ {k q : ℕ} (h : o ≡ Some (k, q)) where
      key : NumberGot number_r s p k q
      key = got number_law s p k q o e.says h

      module _ {x : Option ℕ} (c : Checked g (fine g) s q x) where
        pub rising_rest : x ≡ None → Rises hi g 0 n s at None
        rising_rest b = no (go (missed c b))
          where
            go : Missed (fine g) (read g (drop q s)) → Missed (rising hi g low) (read (entry hi g) (drop p s))
            go (absent i) = absent (rw (key.reads, i) refl)
            go (refused y i t) = refused ((k, y.0), y.1) (rw (key.reads, i) refl) (last (leb low k)
                (leb 0 k && leb k hi) (fine g y.0) t)
              where
                last : (a b c : Bool) → c ≡ false → (a && (b && c)) ≡ false
                last true true c e = e
                last true false c e = refl
                last false b c e = refl

        pub rising_so : {u : ℕ} → x ≡ Some u → low ≤ k → k ≤ hi → Rising hi g n s at (k + 1) (left - 1) u
        rising_so {u} b l m =
            let G = good c b in
            record {
              on = λ x w. A.on x (walk_on (entry hi g) (rise hi g) low s p left z (k, G.value) u (rw
                  (key.reads, G.reads) refl)
                  (rw (le-leb low k l, le-leb 0 k (omega arith), le-leb k hi m, G.fits) refl) x w);
            }

      -- a key that is too low or too high: whatever follows
      over : (leb low k && (leb 0 k && leb k hi)) ≡ false → Missed (rising hi g low) (read (entry hi g) (drop p s))
      over t = go (read g (drop q s)) refl
        where
          last : (a b c : Bool) → (a && b) ≡ false → (a && (b && c)) ≡ false
          last true true c e = absurd (let z : ◌≡◌ {A = ℕ} 0 1 = cc in omega arith)
          last true false c e = refl
          last false b c e = refl

          go : (y : _) → read g (drop q s) ≡ y → Missed (rising hi g low) (read (entry hi g) (drop p s))
          go none i = absent (rw (key.reads, i) refl)
          go (some y) i = refused ((k, y.0), y.1) (rw (key.reads, i) refl) (last (leb low k)
              (leb 0 k && leb k hi) (fine g y.0) t)

      pub rising_low : k < low → Rises hi g 0 n s at None
      rising_low l = no (over (rw (lt-leb low k l) refl))

      pub rising_high : low ≤ k → hi < k → Rises hi g 0 n s at None
      rising_high l m = no (over (rw (le-leb low k l, le-leb 0 k (omega arith), lt-leb k hi m) refl))

-- what a walk finds is that all entries are good, and ascend
less_is : (k x : ℕ) → is_less (lex_of (k ∷ []) (x ∷ [])) ≡ leb (k + 1) x
less_is k x = go (ltb k x) refl (ltb x k) refl
  where
    go : (t : Bool) → ltb k x ≡ t → (u : Bool) → ltb x k ≡ u → is_less (lex_of (k ∷ []) (x ∷ [])) ≡ leb (k + 1) x
    go true e u f = rw (cons_before k x [] [] (ltb-true k x e), le-leb (k + 1) x (omega (arith, ltb-true k x e))) refl
    go false e true f = rw (
      cons_behind k x [] [] (ltb-true x k f),
      lt-leb (k + 1) x (omega
          (arith, ltb-true x k f)),
    ) refl
    go false e false f =
        let i : k ≡ x = omega (arith, ltb-false k x e, ltb-false x k f) in
        rw (i, lex_itself (x ∷ []), lt-leb (x + 1) x (omega arith)) refl

start : (a b c t r : Bool) → t ≡ true → (b && c) ≡ r → ((a && b) && c) ≡ ((t && a) && r)
start a b c t r p q = and_assoc a b c ∙ ap (λ z. a && z) q ∙ sym (ap (λ z. (z && a) && r) p)

module _ (hi : ℕ) (g : Format) where
  rises_above : (k : ℕ) (v : List (Value (entry hi g))) → (all (fine (entry hi g)) v && above numbers k v) ≡ runs
      (rise hi g) (k + 1) v
  rises_above k [] = refl
  rises_above k (e ∷ v) =
      rw (
        shuffle (fine (entry hi g) e) (all (fine (entry hi g)) v) (is_less (lex_of (k ∷ []) (e.0 ∷ [])))
            (above numbers e.0 v),
        less_is k e.0,
      )
      (ap (λ t. (leb (k + 1) e.0 && fine (entry hi g) e) && t) (rises_above e.0 v))

  rises : (v : List (Value (entry hi g))) → (all (fine (entry hi g)) v && ascending numbers v) ≡ runs (rise hi g) 0 v
  rises [] = refl
  rises (e ∷ v) =
      start (fine (entry hi g) e) (all (fine (entry hi g)) v) (above numbers e.0 v) (leb 0 e.0) (runs
      (rise hi g) (e.0 + 1) v)
      (le-leb 0 e.0 (omega arith)) (rises_above e.0 v)

-- entries that are good and ascend
abbrev pub ascend : (l hi : ℕ) (g : Format) → List (Value (entry hi g)) → Bool
ascend l hi g v = fine (list l (entry hi g)) v && ascending numbers v

module _ (l hi : ℕ) (g : Format) (v : List (Value (entry hi g))) where
  pub ascend_over : l < length v → ascend l hi g v ≡ false
  ascend_over h = rw (lt-leb (length v) l h) refl

  pub ascend_runs : length v ≤ l → ascend l hi g v ≡ runs (rise hi g) 0 v
  ascend_runs h = rw (le-leb (length v) l h) (rises hi g v)

-- the list of them
module _ (l hi : ℕ) (g : Format) {s : List ℕ} {at : ℕ} {o : Option (ℕ × ℕ)} (e : Number s at o) where
  pub ascend_no : o ≡ None → Checked (list l (entry hi g)) (ascend l hi g) s at None
  ascend_no h = list_no l (ascend l hi g) refl e h

  module _ {n p : ℕ} (h : o ≡ Some (n, p)) where
    pub ascend_many : l < n → Checked (list l (entry hi g)) (ascend l hi g) s at None
    ascend_many k = list_over l (ascend l hi g) refl e h (ascend_over l hi g) k

    pub ascend_so : n ≤ l → {x : Option ℕ} → Rises hi g 0 n s p x → Checked (list l (entry hi g)) (ascend l hi g) s at x
    ascend_so k w = list_so l (ascend l hi g) refl e h (λ v i. ascend_runs l hi g v (omega arith)) w
