-- Law. What a verdict says, and how verdicts of parts join.
use Rattle.std.specs.Prelude.{◌≡◌, refl, List, ◌∷◌, ◌↔◌, Bool, true, false, ◌&&◌, ℕ, zero, suc, ◌≤◌, ◌<◌, length, leb, ltb}
use Rattle.std.proofs.Common.{sym, ◌∙◌, subst, ⊎_elim, true≢false, arith, eq-or-lt_of_le, le-leb, leb-true, leb-false, ltb-true, ltb-false}
use Rattle.std.proofs.lemmas.Bool.{lt-leb}
use Rattle.formats.specs.Class.{Class}
use Rattle.basics.specs.Lists.{all}
use Rattle.formats.specs.Format.{Format, text, list, ◌&◌, Value}
use Rattle.formats_judge.specs.Judged.{ok, answer, first_failing, verdict}
use Rattle.formats_judge.specs.Promises.Judged.{text_answer, verdicts, sooner}

-- the verdict of two parts is the sooner of their verdicts
pub first_both : (a b c x y z : Bool)
    → sooner (first_failing a b c) (first_failing x y z) ≡ first_failing (a && x) (b && y) (c && z)
first_both false b c false y z = refl
first_both false b c true false z = refl
first_both false b c true true false = refl
first_both false b c true true true = refl
first_both true false c false y z = refl
first_both true true false false y z = refl
first_both true true true false y z = refl
first_both true false c true false z = refl
first_both true false c true true false = refl
first_both true false c true true true = refl
first_both true true false true false z = refl
first_both true true true true false z = refl
first_both true true false true true false = refl
first_both true true false true true true = refl
first_both true true true true true z = refl

pub sooner_assoc : (x y z : ℕ) → sooner x (sooner y z) ≡ sooner (sooner x y) z
sooner_assoc zero y z = refl
sooner_assoc (suc x) zero z = refl
sooner_assoc (suc x) (suc y) zero = go (leb (suc x) (suc y)) refl
  where
    go : (t : Bool) → leb (suc x) (suc y) ≡ t → sooner (suc x) (suc y) ≡ sooner (sooner (suc x) (suc y)) zero
    go true e = rw e refl
    go false e = rw e refl
sooner_assoc (suc x) (suc y) (suc z) = go (leb (suc x) (suc y)) (leb (suc y) (suc z)) refl refl
  where
    go : (t u : Bool) → leb (suc x) (suc y) ≡ t → leb (suc y) (suc z) ≡ u
        → sooner (suc x) (sooner (suc y) (suc z)) ≡ sooner (sooner (suc x) (suc y)) (suc z)
    go true true e f =
        rw (e, f, e, le-leb (suc x) (suc z) (omega (arith, leb-true (suc x) (suc y) e, leb-true (suc y) (suc z) f)))
        refl
    go true false e f = rw (e, f) refl
    go false true e f = rw (e, f, e) refl
    go false false e f =
        rw (e, f, lt-leb (suc x) (suc z) (omega (arith, leb-false (suc x) (suc y) e, leb-false (suc y) (suc z) f))) refl

-- "Texts of different length limits share one fact over the limit": the verdict on a text, for every limit and class
pub text_limit : (limit : ℕ) (c : Class) (v : List ℕ) → verdict (text limit c) v ≡ text_answer limit c v
text_limit limit c v = refl

-- the verdict on two parts, on one value more, and on a list, is the sooner of the parts' verdicts
pub verdict_pair : (a b : Format) (v : Value (a & b)) → sooner (verdict a v.0) (verdict b v.1) ≡ verdict (a & b) v
verdict_pair a b v =
    first_both (ok 5 a v.0) (ok 6 a v.0) (ok 7 a v.0) (ok 5 b v.1) (ok 6 b v.1) (ok 7 b v.1)

pub verdict_more : (f : Format) (x : Value f) (v : List (Value f))
    → sooner (verdict f x) (verdicts f v) ≡ verdicts f (x ∷ v)
verdict_more f x v = first_both (ok 5 f x) (ok 6 f x) (ok 7 f x) (all (ok 5 f) v) (all (ok 6 f) v) (all (ok 7 f) v)

pub verdict_list : (l : ℕ) (f : Format) (v : List (Value f))
    → sooner (answer 7 (leb (length v) l)) (verdicts f v) ≡ verdict (list l f) v
verdict_list l f v = first_both true true (leb (length v) l) (all (ok 5 f) v) (all (ok 6 f) v) (all (ok 7 f) v)

-- what a verdict says, over the question: q is answered no, and each question before it yes
abbrev pub FirstNo : (ℕ → Bool) → ℕ → Type 0
FirstNo g q = (g q ≡ false) × ((p : ℕ) → 5 ≤ p → p < q → g p ≡ true)

module _ (g : ℕ → Bool) where
  differ : {C : Type 0} (q : ℕ) → g q ≡ true → g q ≡ false → C
  differ q e f = absurd (true≢false (sym e ∙ f))

  only : (r q : ℕ) → 5 ≤ r → 5 ≤ q → FirstNo g r → FirstNo g q → r ≡ q
  only r q l m a b = go (ltb r q) (ltb q r) refl refl
    where
      go : (t u : Bool) → ltb r q ≡ t → ltb q r ≡ u → r ≡ q
      go true u e f = differ r (b.1 r l (ltb-true r q e)) a.0
      go false true e f = differ q (a.1 q m (ltb-true q r f)) b.0
      go false false e f = omega (arith, ltb-false r q e, ltb-false q r f)

  -- the questions up to one that is answered no
  yes_five : g 5 ≡ true → (p : ℕ) → 5 ≤ p → p < 6 → g p ≡ true
  yes_five a p l h = let e : 5 ≡ p = omega arith in subst (λ p. g p ≡ true) e a

  yes_six : g 5 ≡ true → g 6 ≡ true → (p : ℕ) → 5 ≤ p → p < 7 → g p ≡ true
  yes_six a b p l h =
      ⊎_elim (λ e. subst (λ p. g p ≡ true) e a) (λ m. let e : 6 ≡ p = omega arith in subst (λ p. g p ≡ true) e b)
      (eq-or-lt_of_le l)

  yes_seven : g 5 ≡ true → g 6 ≡ true → g 7 ≡ true → (p : ℕ) → 5 ≤ p → p ≤ 7 → g p ≡ true
  yes_seven a b c p l h = ⊎_elim (λ e. subst (λ p. g p ≡ true) (sym e) c) (λ m. yes_six a b p l m) (eq-or-lt_of_le h)

  says : (x y z : Bool) → g 5 ≡ x → g 6 ≡ y → g 7 ≡ z → (q : ℕ) → 5 ≤ q → q ≤ 7
      → (first_failing x y z ≡ q) ↔ FirstNo g q
  says false y z a b c q l h =
      let F : FirstNo g 5 = (a, λ p m k. absurd (omega arith)) in
      (λ e. subst (FirstNo g) e F, only 5 q (omega arith) l F)
  says true false z a b c q l h =
      let F : FirstNo g 6 = (b, yes_five a) in
      (λ e. subst (FirstNo g) e F, only 6 q (omega arith) l F)
  says true true false a b c q l h =
      let F : FirstNo g 7 = (c, yes_six a b) in
      (λ e. subst (FirstNo g) e F, only 7 q (omega arith) l F)
  says true true true a b c q l h = (λ e. absurd (omega arith), λ F. differ q (yes_seven a b c q l h) F.0)

  all_yes : (x y z : Bool) → g 5 ≡ x → g 6 ≡ y → g 7 ≡ z
      → (first_failing x y z ≡ 0) ↔ ((p : ℕ) → 5 ≤ p → p ≤ 7 → g p ≡ true)
  all_yes false y z a b c = (λ e. absurd (omega arith), λ k. differ 5 (k 5 (omega arith) (omega arith)) a)
  all_yes true false z a b c = (λ e. absurd (omega arith), λ k. differ 6 (k 6 (omega arith) (omega arith)) b)
  all_yes true true false a b c = (λ e. absurd (omega arith), λ k. differ 7 (k 7 (omega arith) (omega arith)) c)
  all_yes true true true a b c = (λ e. yes_seven a b c, λ k. refl)

pub verdict_says : (f : Format) (v : Value f) (q : ℕ) → 5 ≤ q → q ≤ 7 → (verdict f v ≡ q) ↔ FirstNo (λ p. ok p f v) q
verdict_says f v = says (λ p. ok p f v) (ok 5 f v) (ok 6 f v) (ok 7 f v) refl refl refl

pub verdict_yes : (f : Format) (v : Value f) → (verdict f v ≡ 0) ↔ ((p : ℕ) → 5 ≤ p → p ≤ 7 → ok p f v ≡ true)
verdict_yes f v = all_yes (λ p. ok p f v) (ok 5 f v) (ok 6 f v) (ok 7 f v) refl refl refl
