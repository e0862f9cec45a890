-- Law. A loop over a message makes what its tree makes.
use Rattle.std.specs.Prelude.{ℕ, ◌≡◌, refl, List, Bool, true, false, cond, take, drop, eqb}
use Rattle.std.proofs.Common.{sym, ap, ◌∙◌}
use Rattle.std.proofs.Math.Option.{Option, none, some, map}
use Rattle.basics.specs.Laws.Options.{none_some}
use Rattle.realtime.specs.Tree.{Schema, Tree, end, num, txt, msg, tree, join, sub}
use Rattle.basics.specs.Options.{bind_o}
use Rattle.realtime_read.specs.Promises.Steps.{Stepped}
use Rattle.realtime_read.specs.declared.Step.{Step}
use Rattle.realtime_views.specs.Promises.Fold.{Takes, folded, inside, Made}

pub folded_join : {B : Type 0} (φ : Takes B) (v : B) (a b : Tree) → folded φ v (join a b) ≡ folded φ (folded φ v a) b
folded_join φ v end b = refl
folded_join φ v (num f n t) b = folded_join φ (φ.number v f n) t b
folded_join φ v (txt f x t) b = folded_join φ (φ.text v f x) t b
folded_join φ v (msg f u m t) b = folded_join φ (φ.message v f m) t b

-- MERGING: of the messages at field k, one after the other is all of them joined
pub inside_sub : {B : Type 0} (k : ℕ) (φ : Takes B) (v : B) (t : Tree) → folded (inside k φ) v t ≡ folded φ v (sub k t)
inside_sub k φ v end = refl
inside_sub k φ v (num f n t) = inside_sub k φ v t
inside_sub k φ v (txt f x t) = inside_sub k φ v t
inside_sub {B} k φ v (msg f u m t) = inside_sub k φ (cond (eqb f k) (folded φ v m) v) t ∙ go (eqb f k)
  where
    go : (b : Bool) → folded φ (cond b (folded φ v m) v) (sub k t) ≡ folded φ v (cond b (join m (sub k t)) (sub k t))
    go true = sym (folded_join φ v m (sub k t))
    go false = refl

-- its loop stands at `at`, and v is what was made so far
pub record Walked {B : Type 0} (φ : Takes B) (v₀ : B) (σ : Schema) (t : ℕ) (s : List ℕ) (from at : ℕ) (v : B) : Type 0
  where
    pub whole : (m : Tree) → tree σ t (drop from s) ≡ some m
        → map (folded φ v) (tree σ t (drop at s)) ≡ some (folded φ v₀ m)

pub walk_starts : {B : Type 0} {φ : Takes B} {v : B} {σ : Schema} {t : ℕ} {s : List ℕ} {from : ℕ}
    → Walked φ v σ t s from from v
walk_starts {φ = φ} {v = v} = record { whole = λ m e. ap (map (folded φ v)) e }

module _ {B : Type 0} {φ : Takes B} {v₀ : B} {σ : Schema} {t : ℕ} {s : List ℕ} {from at : ℕ} {v : B}
    (W : Walked φ v₀ σ t s from at v) where
  now_at : {o : Option Tree} → tree σ t (drop at s) ≡ o → (m : Tree) → tree σ t (drop from s) ≡ some m
      → map (folded φ v) o ≡ some (folded φ v₀ m)
  now_at h m e = ap (map (folded φ v)) (sym h) ∙ W.whole m e

  pub walk_ends : Stepped σ t s at Step.End → Made φ v₀ σ t s from v
  walk_ends S = record { of = λ m e. let h = now_at S.same m e in cc }

  -- where it breaks off any answer will do
  pub walk_breaks : {w : B} → Stepped σ t s at Step.Broken → Made φ v₀ σ t s from w
  walk_breaks S = record { of = λ m e. none_some (now_at S.same m e) }

  number_put : (f m : ℕ) (o : Option Tree)
      → map (folded φ v) (map (num f m) o) ≡ map (folded φ (φ.number v f m)) o
  number_put f m none = refl
  number_put f m (some t) = refl

  text_put : (f : ℕ) (x : List ℕ) (o : Option Tree)
      → map (folded φ v) (map (txt f x) o) ≡ map (folded φ (φ.text v f x)) o
  text_put f x none = refl
  text_put f x (some t) = refl

  message_put : (f u : ℕ) (m : Tree) (o : Option Tree)
      → map (folded φ v) (map (msg f u m) o) ≡ map (folded φ (φ.message v f m)) o
  message_put f u m none = refl
  message_put f u m (some t) = refl

  pub walk_number : {f k n : ℕ} {w : B} → Stepped σ t s at (Step.Number f k n) → w ≡ φ.number v f k
      → Walked φ v₀ σ t s from n w
  walk_number {f} {k} {n} {w} S h = record {
    whole = λ m e. ap (λ j. map (folded φ j) (tree σ t (drop n s))) h
        ∙ sym (number_put f k (tree σ t (drop n s))) ∙ now_at S.same m e;
  }

  pub walk_text : {f i l n : ℕ} {w : B} → Stepped σ t s at (Step.Text f i l n) → w ≡ φ.text v f (take l (drop i s))
      → Walked φ v₀ σ t s from n w
  walk_text {f} {i} {l} {n} {w} S h = record {
    whole = λ m e. ap (λ j. map (folded φ j) (tree σ t (drop n s))) h
        ∙ sym (text_put f (take l (drop i s)) (tree σ t (drop n s))) ∙ now_at S.same m e;
  }

  pub walk_message : {f u i l n : ℕ} {w : B} → Stepped σ t s at (Step.Message f u i l n)
      → ((m : Tree) → tree σ u (take l (drop i s)) ≡ some m → w ≡ φ.message v f m) → Walked φ v₀ σ t s from n w
  walk_message {f} {u} {i} {l} {n} {w} S h =
      record { whole = λ m e. go (tree σ u (take l (drop i s))) refl m (now_at S.same m e) }
    where
      go : (o : Option Tree) → tree σ u (take l (drop i s)) ≡ o → (m : Tree)
          → map (folded φ v) (bind_o o (λ m. map (msg f u m) (tree σ t (drop n s)))) ≡ some (folded φ v₀ m)
          → map (folded φ w) (tree σ t (drop n s)) ≡ some (folded φ v₀ m)
      go none e₁ m e₂ = none_some e₂
      go (some k) e₁ m e₂ = ap (λ j. map (folded φ j) (tree σ t (drop n s))) (h k e₁)
          ∙ sym (message_put f u k (tree σ t (drop n s))) ∙ e₂
