-- Law. Checked reading: what an answer says, one value after another, an optional value, and tests.
use Rattle.std.specs.Prelude.{◌≡◌, refl, List, ◌⊎◌, Bool, true, false, cond, ◌&&◌, ℕ, ◌+◌, ◌-◌, ◌≤◌, ◌<◌, length, drop, get_or, Option, Some, None}
use Rattle.std.proofs.Common.{sym, ap, ◌∙◌, inl, inr, arith, drop_of_length-le, ne_eqb}
use Rattle.std.proofs.Math.Option.{Option as LogicOption, none, some}
use Rattle.formats.specs.Readers.{Reader, bind, only_r}
use Rattle.formats.specs.Laws.Law.{found, only_law}
use Rattle.basics.specs.Laws.Options.{none_some}
use Rattle.formats.specs.Format.{Format, optional, ◌&◌, Value, read}
use Rattle.formats.specs.Laws.Format.{law}
use Rattle.formats.specs.Laws.Outcome.{broken, at_place}
use Rattle.formats.specs.Promises.Outcome.{skipped}
use Rattle.formats.proofs.Numbers.{place, opened}
use Rattle.formats_check.specs.Promises.Checked.{Checked, fine, Fine, Test, own, behind, under, both, also, holds}
use Rattle.formats_check.specs.Promises.Checked.{Tested}

abbrev pub Out : Type 0 → Type 0
Out A = LogicOption (A × List ℕ)

abbrev pub filter : {A : Type 0} → (A → Bool) → Out A → Out A
filter P o = bind o (λ a t. cond (P a) (some (a, t)) none)

-- an outcome that was filtered, taken apart
only_some : {A : Type 0} (P : A → Bool) (o : Out A) (v : A) (t : List ℕ) → filter P o ≡ some (v, t)
    → (o ≡ some (v, t)) × (P v ≡ true)
only_some P none v t e = none_some e
only_some {A} P (some x) v t e = go (P x.0) refl e
  where
    go : (b : Bool) → P x.0 ≡ b → cond {A = Out A} b (some (x.0, x.1)) none ≡ some (v, t)
        → (some x ≡ some (v, t)) × (P v ≡ true)
    go true p e = (e, let i : x.0 ≡ v = cc in ap P (sym i) ∙ p)
    go false p e = none_some e

pub data Missed {A : Type 0} (P : A → Bool) (o : Out A) : Type 0 where
  absent : o ≡ none → Missed P o
  refused : (x : A × List ℕ) → o ≡ some x → P x.0 ≡ false → Missed P o

some_none : {A : Type 0} {C : Type 0} {a : A} → some a ≡ none → C
some_none e = none_some (sym e)

only_none : {A : Type 0} (P : A → Bool) (o : Out A) → filter P o ≡ none → Missed P o
only_none P none e = absent refl
only_none {A} P (some x) e = go (P x.0) refl e
  where
    go : (b : Bool) → P x.0 ≡ b → cond {A = Out A} b (some (x.0, x.1)) none ≡ none → Missed P (some x)
    go true p e = some_none e
    go false p e = refused x refl p

-- what an answer says: a good value stands there, and what is left is the whole past the place
pub record Good {A : Type 0} (r : Reader A) (P : A → Bool) (s : List ℕ) (at p : ℕ) : Type 0 where
  pub value : A
  pub reads : r (drop at s) ≡ some (value, drop p s)
  pub fits : P value ≡ true
  pub within : p ≤ length s

at_in : {A : Type 0} (s : List ℕ) (o : Out A) (p : ℕ) → skipped s o ≡ Some p → p ≤ length s
at_in s none p e = let z : ◌≡◌ {A = ℕ} 0 1 = cc in absurd (omega arith)
at_in s (some x) p e = let z : p ≡ length s - length x.1 = cc in omega arith

module _ {f : Format} {P : Value f → Bool} {s : List ℕ} {at : ℕ} {r : Option ℕ} (c : Checked f P s at r) where
  pub good : {p : ℕ} → r ≡ Some p → Good (read f) P s at p
  good {p} h =
      let y = at_place (only_law P (law f)) s at p (sym c.says ∙ h) in
      let z = only_some P (read f (drop at s)) y.0 (drop p s) y.1 in
      record {
        value = y.0;
        reads = z.0;
        fits = z.1;
        within = at_in s (only_r P (read f) (drop at s)) p (sym c.says ∙ h);
      }

  pub missed : r ≡ None → Missed P (read f (drop at s))
  missed h = only_none P (read f (drop at s)) (broken s (only_r P (read f) (drop at s)) (sym c.says ∙ h))

  pub check_in : {p : ℕ} → r ≡ Some p → p ≤ length s
  check_in h = (good h).within

  -- two tests that agree
  pub check_as : (Q : Value f → Bool) → ((v : Value f) → P v ≡ Q v) → Checked f Q s at r
  check_as Q h = record { says = c.says ∙ go (read f (drop at s)) }
    where
      go : (o : Out (Value f)) → skipped s (filter P o) ≡ skipped s (filter Q o)
      go none = refl
      go (some x) = rw (h x.0) refl

-- the answer by what was read
module _ (f : Format) (P : Value f → Bool) (s : List ℕ) (at : ℕ) where
  pub is_none : read f (drop at s) ≡ none → Checked f P s at None
  is_none e = record { says = rw e refl }

  module _ (v : Value f) (p : ℕ) (e : read f (drop at s) ≡ some (v, drop p s)) where
    pub is_good : P v ≡ true → p ≤ length s → Checked f P s at (Some p)
    is_good t h = record { says = rw (e, t, place s p h) refl }

    pub is_bad : P v ≡ false → Checked f P s at None
    is_bad t = record { says = rw (e, t) refl }

-- ONE AFTER THE OTHER, where the second test may look at what the first value is
abbrev pub pairs : {A B : Type 0} → (A → Bool) → (A → B → Bool) → A × B → Bool
pairs P Q v = P v.0 && Q v.0 v.1

module _ {a b : Format} {P : Value a → Bool} {s : List ℕ} {at : ℕ} {r : Option ℕ} (c : Checked a P s at r)
    (Q : Value a → Value b → Bool) where
  pub pair_no : r ≡ None → Checked (a & b) (pairs P Q) s at None
  pair_no h = record { says = go (missed c h) }
    where
      after : (x : Value a × List ℕ) → P x.0 ≡ false → (o : Out (Value b))
          → None ≡ skipped s (filter (pairs P Q) (bind o (λ y u. some ((x.0, y), u))))
      after x t none = refl
      after x t (some y) = rw t refl

      go : Missed P (read a (drop at s)) → None ≡ skipped s (only_r (pairs P Q) (read (a & b)) (drop at s))
      go (absent i) = rw i refl
      go (refused x i t) = rw i (after x t (read b x.1))

  pub pair_so : {p : ℕ} {x : Option ℕ} (h : r ≡ Some p) → Checked b (Q (good c h).value) s p x
      → Checked (a & b) (pairs P Q) s at x
  pair_so {p} {x} h d =
      let g = good c h in
      record { says = rw g.reads (d.says ∙ go g.value g.fits (read b (drop p s))) }
    where
      go : (v : Value a) → P v ≡ true → (o : Out (Value b))
          → skipped s (filter (Q v) o) ≡ skipped s (filter (pairs P Q) (bind o (λ y u. some ((v, y), u))))
      go v t none = refl
      go v t (some y) = rw t (end (Q v y.0))
        where
          end : (q : Bool) → skipped s (cond {A = Out (Value b)} q (some (y.0, y.1)) none)
              ≡ skipped s (cond {A = Out (Value a × Value b)} q (some ((v, y.0), y.1)) none)
          end true = refl
          end false = refl

-- a pair that is read: its parts
pub record Parts (a b : Format) (s : List ℕ) (at p : ℕ) (v : Value (a & b)) (u : List ℕ) : Type 0 where
  pub front : read a (drop at s) ≡ some (v.0, drop p s)
  pub rest : read b (drop p s) ≡ some (v.1, u)

pub record Halves (a b : Format) (o : Out (Value a)) (v : Value (a & b)) (u : List ℕ) : Type 0 where
  pub between : List ℕ
  pub first : o ≡ some (v.0, between)
  pub second : read b between ≡ some (v.1, u)

halves : (a b : Format) (o : Out (Value a)) (v : Value (a & b)) (u : List ℕ)
    → bind o (λ x t. bind (read b t) (λ y u. some ((x, y), u))) ≡ some (v, u) → Halves a b o v u
halves a b none v u e = none_some e
halves a b (some x) v u e = go (read b x.1) refl e
  where
    go : (o : Out (Value b)) → read b x.1 ≡ o → bind o (λ y u. some ((x.0, y), u)) ≡ some (v, u)
        → Halves a b (some x) v u
    go none i e = none_some e
    go (some y) i e =
        found (λ w z. Halves a b (some x) w z) e (record { between = x.1; first = refl; second = i })

module _ {a : Format} (b : Format) {s : List ℕ} {at : ℕ} {r : Option ℕ} (c : Fine a s at r) {v : Value (a & b)}
    {u : List ℕ} (e : read (a & b) (drop at s) ≡ some (v, u)) where
  pub parts : {p : ℕ} → r ≡ Some p → Parts a b s at p v u
  parts {p} h =
      let G = good c h in
      let H = halves a b (read a (drop at s)) v u e in
      let i : ◌≡◌ {A = Out (Value a)} (some (v.0, H.between)) (some (G.value, drop p s)) = sym H.first
      ∙ G.reads in
      let j : H.between ≡ drop p s = second_is i in
      record { front = rw j at H.first; rest = rw j at H.second }
    where
      second_is : {x y : Value a} {m n : List ℕ} → ◌≡◌ {A = Out (Value a)} (some (x, m)) (some (y, n)) → m ≡ n
      second_is {x} {y} {m} q = found (λ c d. m ≡ d) q refl

  pub no_parts : r ≡ None → fine (a & b) v ≡ true → ⊥
  no_parts h f = go (missed c h)
    where
      H : Halves a b (read a (drop at s)) v u
      H = halves a b (read a (drop at s)) v u e

      left : (x y : Bool) → (x && y) ≡ true → x ≡ false → ⊥
      left true y p q = let z : ◌≡◌ {A = ℕ} 0 1 = cc in omega arith
      left false y p q = let z : ◌≡◌ {A = ℕ} 0 1 = cc in omega arith

      go : Missed (fine a) (read a (drop at s)) → ⊥
      go (absent i) = none_some (sym i ∙ H.first)
      go (refused x i t) =
          let j : x.0 ≡ v.0 = found (λ c d. x.0 ≡ c) (sym i ∙ H.first) refl in
          left (fine a v.0) (fine b v.1) f (rw j at t)

-- AN OPTIONAL VALUE
module _ {f : Format} (s : List ℕ) (at : ℕ) where
  pub optional_end : length s ≤ at → Fine (optional f) s at None
  optional_end h = is_none (optional f) (fine (optional f)) s at (rw (drop_of_length-le s h) refl)

  module _ (c : ℕ) (h : at < length s) (e : c ≡ get_or s at 0) where
    pub optional_absent : c ≡ 0 → Fine (optional f) s at (Some (at + 1))
    optional_absent z =
        is_good (optional f) (fine (optional f)) s at (inl tt) (at + 1) (rw (opened s at c h e, z) refl) refl
        (omega arith)

  pub optional_other : at < length s → (get_or s at 0 ≡ 0 → ⊥) → (get_or s at 0 ≡ 1 → ⊥) → Fine (optional f) s at None
  optional_other h y z =
      is_none (optional f) (fine (optional f)) s at
      (rw (opened s at (get_or s at 0) h refl, ne_eqb (get_or s at 0) 0 y, ne_eqb (get_or s at 0) 1 z) refl)

pub optional_given : {f : Format} {s : List ℕ} {at : ℕ} {x : Option ℕ} (c : ℕ) → at < length s → c ≡ get_or s at 0
    → c ≡ 1
    → Fine f s (at + 1) x → Fine (optional f) s at x
optional_given {f} {s} {at} {x} c h e z i =
    record { says = rw (opened s at c h e, z) (i.says ∙ go (read f (drop (at + 1) s))) }
  where
    go : (o : Out (Value f))
        → skipped s (filter (fine f) o) ≡ skipped s (filter (fine (optional f)) (bind o (λ y t. some (inr y, t))))
    go none = refl
    go (some y) = end (fine f y.0)
      where
        end : (q : Bool) → skipped s (cond {A = Out (Value f)} q (some (y.0, y.1)) none)
            ≡ skipped s (cond {A = Out (Unit {0} ⊎ Value f)} q (some (inr y.0, y.1)) none)
        end true = refl
        end false = refl

-- the laws that speak of annotations alone
module _ {a b : Format} {s : List ℕ} {at : ℕ} {r : Option ℕ} (c : Fine a s at r) where
  pub then_no : r ≡ None → Fine (a & b) s at None
  then_no h = pair_no c (λ v. fine b) h

  pub then_so : {p : ℕ} {x : Option ℕ} → r ≡ Some p → Fine b s p x → Fine (a & b) s at x
  then_so h d = pair_so c (λ v. fine b) h d

-- annotations in front, and a test behind them, which may be by the value in front
pub tested : {f : Format} {P : Value f → Bool} {s : List ℕ} {at : ℕ} {r : Option ℕ} → Checked f P s at r
    → Tested f (own f P) s at r
tested c = record { is = c }

module _ {a b : Format} {s : List ℕ} {at : ℕ} {r : Option ℕ} (c : Fine a s at r) where
  pub behind_no : (t : Test b) → r ≡ None → Tested (a & b) (behind a t) s at None
  behind_no t h = record { is = pair_no c (λ v. holds t) h }

  pub behind_so : {t : Test b} {p : ℕ} {x : Option ℕ} → r ≡ Some p → Tested b t s p x
      → Tested (a & b) (behind a t) s at x
  behind_so {t} h d = record { is = pair_so c (λ v. holds t) h d.is }

  pub under_no : (t : Value a → Test b) → r ≡ None → Tested (a & b) (under a t) s at None
  under_no t h = record { is = pair_no c (λ v. holds (t v)) h }

  pub under_so : {t : Value a → Test b} {p : ℕ} {x : Option ℕ} (h : r ≡ Some p) → Tested b (t (good c h).value) s p x
      → Tested (a & b) (under a t) s at x
  under_so {t} h d = record { is = pair_so c (λ v. holds (t v)) h d.is }

-- two tests, one after the other
module _ {a b : Format} {t : Test a} {s : List ℕ} {at : ℕ} {r : Option ℕ} (c : Tested a t s at r) where
  pub both_no : (u : Test b) → r ≡ None → Tested (a & b) (both t u) s at None
  both_no u h = record { is = pair_no c.is (λ v. holds u) h }

  pub both_so : {u : Test b} {p : ℕ} {x : Option ℕ} → r ≡ Some p → Tested b u s p x → Tested (a & b) (both t u) s at x
  both_so {u} h d = record { is = pair_so c.is (λ v. holds u) h d.is }

-- where a good value is known to stand, the answer is the place past it: a checker is a way past it, too
pub check_past : {f : Format} {P : Value f → Bool} {s : List ℕ} {at : ℕ} {r : Option ℕ} → Checked f P s at r
    → (v : Value f) (q : ℕ) → read f (drop at s) ≡ some (v, drop q s) → q ≤ length s → P v ≡ true → r ≡ Some q
check_past {f} {P} {s} {at} {r} c v q e h t = c.says ∙ sym (is_good f P s at v q e t h).says

pub tested_in : {f : Format} {t : Test f} {s : List ℕ} {at : ℕ} {r : Option ℕ} → Tested f t s at r → {p : ℕ}
    → r ≡ Some p
    → p ≤ length s
tested_in c h = (good c.is h).within

-- A TEST MORE: what tells b looks at the value where it stands
pub record Tells (f : Format) (Q : Value f → Bool) (s : List ℕ) (at : ℕ) (b : Bool) : Type 0 where
  pub on : (v : Value f) (u : List ℕ) → read f (drop at s) ≡ some (v, u) → fine f v ≡ true → b ≡ Q v

module _ {f : Format} {t : Test f} {s : List ℕ} {at : ℕ} {r : Option ℕ} (c : Tested f t s at r)
    (Q : Value f → Bool) where
  pub more_no : r ≡ None → Tested f (also t Q) s at None
  more_no h = record { is = go (missed c.is h) }
    where
      go : Missed (holds t) (read f (drop at s)) → Checked f (holds (also t Q)) s at None
      go (absent i) = is_none f (holds (also t Q)) s at i
      go (refused x i t) = record { says = rw (i, t) refl }

  module _ {p : ℕ} (h : r ≡ Some p) (g : (v : Value f) → holds t v ≡ true → fine f v ≡ true) {b : Bool}
      (T : Tells f Q s at b) where
    told : Q (good c.is h).value ≡ b
    told = let G = good c.is h in sym (T.on G.value (drop p s) G.reads (g G.value G.fits))

    pub more_bad : b ≡ false → Tested f (also t Q) s at None
    more_bad i =
        let G = good c.is h in
        record { is = is_bad f (holds (also t Q)) s at G.value p G.reads (rw G.fits (told ∙ i)) }

    pub more_so : b ≡ true → Tested f (also t Q) s at (Some p)
    more_so i =
        let G = good c.is h in
        record { is = is_good f (holds (also t Q)) s at G.value p G.reads (rw G.fits (told ∙ i)) G.within }
