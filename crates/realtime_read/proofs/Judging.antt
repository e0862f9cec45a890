-- A turn of the loop of `judge`, on plain values.
use Rattle.std.specs.Prelude.{Some}
use Prim.Native.Nat.{ℕ, ◌≤◌, ◌<◌}
use mathlib.Core.Path.{◌≡◌, refl, sym, ap, ◌∙◌}
use mathlib.Core.List.{List}
use mathlib.Core.Bool.{Bool, true, false, cond, ◌&&◌}
use mathlib.Core.Option.{Option, none, some, map}
use native.Mathlib.Omega.{arith}
use lib.Dec.{leb}
use lib.ListN.{length, take, drop, length-take}
use borrow.Author.Tests.{le-leb, lt-leb}
use Rattle.formats.specs.Class.{Class, in_class}
use Rattle.realtime.specs.Tree.{Schema, Tree, num, txt, msg, tree}
use Rattle.basics.specs.Options.{bind_o}
use Rattle.realtime_read.specs.Promises.Steps.{Lies, Stepped}
use Rattle.realtime.specs.Judge.{Rules, texts_fine, numbers_fine, asked}
use Rattle.realtime_read.specs.Promises.Judge.{fine, asked_first}
use Rattle.realtime_read.proofs.Turn.{Here, here}
use Rattle.realtime_read.specs.declared.Step.{Step}
use Rattle.wire.specs.Promises.Places.{key_at}
use Rattle.wire.specs.declared.Cursor.{Cursor}
use Rattle.realtime.specs.declared.Verdict.{Verdict}

-- the judgement of a text
pub too_long : {n : ℕ} (s : List ℕ) (l : ℕ) (c : Class) → n ≡ l → n < length s
    → Verdict.Text ≡ cond (leb (length s) l && in_class c s) Verdict.Fine Verdict.Text
too_long s l c e h = rw (lt-leb (length s) l (omega arith))

pub fits : {n : ℕ} (s : List ℕ) (l : ℕ) (c : Class) (b : Bool) → n ≡ l → length s ≤ n → b ≡ in_class c s
    → cond b Verdict.Fine Verdict.Text ≡ cond (leb (length s) l && in_class c s) Verdict.Fine Verdict.Text
fits s l c b e h p = rw (le-leb (length s) l (omega arith), p)

-- parts of a message are judged one by one
pub first_assoc : (a b c : Verdict) → asked_first (asked_first a b) c ≡ asked_first a (asked_first b c)
first_assoc Verdict.Broken b c = refl
first_assoc Verdict.Fine b c = refl
first_assoc Verdict.Text Verdict.Broken c = refl
first_assoc Verdict.Text Verdict.Fine c = refl
first_assoc Verdict.Text Verdict.Text Verdict.Broken = refl
first_assoc Verdict.Text Verdict.Text Verdict.Text = refl
first_assoc Verdict.Text Verdict.Text Verdict.Time = refl
first_assoc Verdict.Text Verdict.Text Verdict.Fine = refl
first_assoc Verdict.Text Verdict.Time Verdict.Broken = refl
first_assoc Verdict.Text Verdict.Time Verdict.Text = refl
first_assoc Verdict.Text Verdict.Time Verdict.Time = refl
first_assoc Verdict.Text Verdict.Time Verdict.Fine = refl
first_assoc Verdict.Time Verdict.Broken c = refl
first_assoc Verdict.Time Verdict.Fine c = refl
first_assoc Verdict.Time Verdict.Text Verdict.Broken = refl
first_assoc Verdict.Time Verdict.Text Verdict.Text = refl
first_assoc Verdict.Time Verdict.Text Verdict.Time = refl
first_assoc Verdict.Time Verdict.Text Verdict.Fine = refl
first_assoc Verdict.Time Verdict.Time Verdict.Broken = refl
first_assoc Verdict.Time Verdict.Time Verdict.Text = refl
first_assoc Verdict.Time Verdict.Time Verdict.Time = refl
first_assoc Verdict.Time Verdict.Time Verdict.Fine = refl

first_broken : (a : Verdict) → asked_first a Verdict.Broken ≡ Verdict.Broken
first_broken Verdict.Broken = refl
first_broken Verdict.Text = refl
first_broken Verdict.Time = refl
first_broken Verdict.Fine = refl

first_fine : (a : Verdict) → asked_first a Verdict.Fine ≡ a
first_fine Verdict.Broken = refl
first_fine Verdict.Text = refl
first_fine Verdict.Time = refl
first_fine Verdict.Fine = refl

pub fine_first : (a b : Verdict) → true ≡ fine b → a ≡ asked_first a b
fine_first a Verdict.Broken e = let z : ◌≡◌ {A = ℕ} 0 1 = cc in absurd (omega arith)
fine_first a Verdict.Text e = let z : ◌≡◌ {A = ℕ} 0 1 = cc in absurd (omega arith)
fine_first a Verdict.Time e = let z : ◌≡◌ {A = ℕ} 0 1 = cc in absurd (omega arith)
fine_first a Verdict.Fine e = sym (first_fine a)

-- of two parts that are whole: the texts of both, then the numbers of both
two : (a b x y : Bool) → cond (a && b) (cond (x && y) Verdict.Fine Verdict.Time) Verdict.Text
    ≡ asked_first (cond a (cond x Verdict.Fine Verdict.Time) Verdict.Text)
    (cond b (cond y Verdict.Fine Verdict.Time) Verdict.Text)
two true true true true = refl
two true true true false = refl
two true true false true = refl
two true true false false = refl
two true false true y = refl
two true false false y = refl
two false true x true = refl
two false true x false = refl
two false false x y = refl

text_one : (a : Bool) → cond a (cond true Verdict.Fine Verdict.Time) Verdict.Text ≡ cond a Verdict.Fine Verdict.Text
text_one true = refl
text_one false = refl

module _ (ρ : Rules) (t f : ℕ) where
  asked_number : (v : ℕ) (o : Option Tree)
      → asked ρ t (map (num f v) o) ≡ asked_first (cond (ρ.number t f v) Verdict.Fine Verdict.Time) (asked ρ t o)
  asked_number v none = sym (first_broken (cond (ρ.number t f v) Verdict.Fine Verdict.Time))
  asked_number v (some m) = two true (texts_fine ρ t m) (ρ.number t f v) (numbers_fine ρ t m)

  asked_text : (x : List ℕ) (o : Option Tree)
      → asked ρ t (map (txt f x) o) ≡ asked_first (cond (ρ.text t f x) Verdict.Fine Verdict.Text) (asked ρ t o)
  asked_text x none = sym (first_broken (cond (ρ.text t f x) Verdict.Fine Verdict.Text))
  asked_text x (some m) =
      two (ρ.text t f x) (texts_fine ρ t m) true (numbers_fine ρ t m)
      ∙ ap (λ a. asked_first a (asked ρ t (some m))) (text_one (ρ.text t f x))

  asked_message : (u : ℕ) (p o : Option Tree)
      → asked ρ t (bind_o p (λ m. map (msg f u m) o)) ≡ asked_first (asked ρ u p) (asked ρ t o)
  asked_message u none o = refl
  asked_message u (some n) none = sym (first_broken (asked ρ u (some n)))
  asked_message u (some n) (some m) = two (texts_fine ρ u n) (texts_fine ρ t m) (numbers_fine ρ u n)
      (numbers_fine ρ t m)

-- the loop stands at `at`, and `worst` is the judgement so far
pub record Judged (ρ : Rules) (σ : Schema) (t : ℕ) (s : List ℕ) (at : ℕ) (worst : Verdict) : Type 0 where
  pub whole : asked ρ t (tree σ t s) ≡ asked_first worst (asked ρ t (tree σ t (drop at s)))

module _ {ρ : Rules} {σ : Schema} {t : ℕ} {s : List ℕ} {at : ℕ} {worst : Verdict} (J : Judged ρ σ t s at worst) where
  pub ends : Stepped σ t s at Step.End → worst ≡ asked ρ t (tree σ t s)
  ends S = sym (J.whole ∙ ap (λ o. asked_first worst (asked ρ t o)) S.same ∙ first_fine worst)

  pub breaks : Stepped σ t s at Step.Broken → Verdict.Broken ≡ asked ρ t (tree σ t s)
  breaks S = sym (J.whole ∙ ap (λ o. asked_first worst (asked ρ t o)) S.same ∙ first_broken worst)

  -- a field that leaves no trace
  pub passes : {rest : ℕ} → tree σ t (drop at s) ≡ tree σ t (drop rest s) → Judged ρ σ t s rest worst
  passes e = record { whole = J.whole ∙ ap (λ o. asked_first worst (asked ρ t o)) e }

  -- one part more
  more : (v w : Verdict) (rest : ℕ)
      → asked ρ t (tree σ t (drop at s)) ≡ asked_first v (asked ρ t (tree σ t (drop rest s))) → w ≡ asked_first worst v
      → Judged ρ σ t s rest w
  more v w rest e h =
      let r = asked ρ t (tree σ t (drop rest s)) in
      record {
        whole =
            J.whole ∙ ap (asked_first worst) e ∙ sym (first_assoc worst v r) ∙ ap (λ a. asked_first a r) (sym h);
      }

  pub more_number : {f m n : ℕ} {v w : Verdict} → Stepped σ t s at (Step.Number f m n)
      → v ≡ cond (ρ.number t f m) Verdict.Fine Verdict.Time → w ≡ asked_first worst v
      → Judged ρ σ t s n w
  more_number {f} {m} {n} {v} {w} S e h =
      let r = tree σ t (drop n s) in
      more v w n (ap (asked ρ t) S.same ∙ asked_number ρ t f m r ∙ ap (λ a. asked_first a (asked ρ t r)) (sym e)) h

  pub more_text : {f i l n : ℕ} {x : List ℕ} {v w : Verdict} → Stepped σ t s at (Step.Text f i l n)
      → x ≡ take l (drop i s)
      → v ≡ cond (ρ.text t f x) Verdict.Fine Verdict.Text → w ≡ asked_first worst v → Judged ρ σ t s n w
  more_text {f} {i} {l} {n} {x} {v} {w} S p e h =
      let r = tree σ t (drop n s) in
      more v w n
      (ap (asked ρ t) S.same ∙ asked_text ρ t f (take l (drop i s)) r
      ∙ ap (λ a. asked_first (cond (ρ.text t f a) Verdict.Fine Verdict.Text) (asked ρ t r)) (sym p)
      ∙ ap (λ a. asked_first a (asked ρ t r)) (sym e)) h

  pub more_message : {f u i l n : ℕ} {x : List ℕ} {v w : Verdict} → Stepped σ t s at (Step.Message f u i l n)
      → x ≡ take l (drop i s)
      → v ≡ asked ρ u (tree σ u x) → w ≡ asked_first worst v → Judged ρ σ t s n w
  more_message {f} {u} {i} {l} {n} {x} {v} {w} S p e h =
      let r = tree σ t (drop n s) in
      more v w n
      (ap (asked ρ t) S.same ∙ asked_message ρ t f u (tree σ u (take l (drop i s))) r
      ∙ ap (λ a. asked_first (asked ρ u (tree σ u a)) (asked ρ t r)) (sym p)
      ∙ ap (λ a. asked_first a (asked ρ t r)) (sym e)) h

-- the loop stands at `at`, and reads a key there
abbrev pub key_here : {σ : Schema} {t : ℕ} {s : List ℕ} {at n w : ℕ} {c : Cursor} → at < length s
    → Some (n, w, c) ≡ key_at s at
    → Here σ t s at n w c.at
key_here h e = here (refl, omega arith) h e

-- a part of a message has fewer bytes
pub part_less : {s : List ℕ} {at i l n : ℕ} (x : List ℕ) → x ≡ take l (drop i s) → Lies s at i l n → length x < length s
part_less {s} {at} {i} {l} x e h = omega (arith, ap length e, length-take l (drop i s), h)
