-- The codes of a type's fields, and what each of them stands for.
use Prim.Native.Nat.{ℕ, zero, suc, ◌-◌, ◌*◌, ◌/◌, ◌%◌, ◌^◌, ◌≤◌, ◌<◌}
use mathlib.Core.Path.{◌≡◌, refl, sym, ap, ◌∙◌}
use mathlib.Core.Bool.{Bool, true, false, ◌&&◌}
use mathlib.Core.Option.{Option, none, some}
use native.Mathlib.Omega.{arith}
use lib.Dec.{eqb, ltb}
use borrow.Author.Tests.{eqb-true, eqb-false, ltb-true, ltb-false}
use Rattle.basics.specs.Laws.Booleans.{both_true}
use Rattle.realtime.specs.Tree.{Kind, a_number, a_text, a_message}
use Rattle.realtime.specs.Schema.{field_rows, feed}
use Rattle.realtime.proofs.Laws.Schema.{feed_above}
use Rattle.realtime_read.specs.Promises.Schema.{holds, code, codes, row}
use Rattle.realtime_read.specs.declared.Holds.{Holds}

-- a type that no message has
codes_above : (t n : ℕ) → 16 ≤ t → codes t n ≡ 0
codes_above t zero h = refl
codes_above t (suc n) h = rw (feed_above t n h) (omega (arith, codes_above t n h))

row_above : (t : ℕ) → 16 ≤ t → row t ≡ 0
unfolding row
row_above t h = codes_above t 12 h

pub row_else : (t : ℕ) → 16 ≤ t → 0 ≡ row t
row_else t h = sym (row_above t h)

-- a test of every number below n, computed
below : ℕ → (ℕ → Bool) → Bool
below zero p = true
below (suc n) p = p n && below n p

at_below : (n : ℕ) (p : ℕ → Bool) (k : ℕ) → below n p ≡ true → k < n → p k ≡ true
unfolding below
at_below zero p k e h = absurd (omega arith)
at_below (suc n) p k e h = go (eqb k n) refl (at_below n p k (both_true (p n) (below n p) e).1)
  where
    go : (t : Bool) → eqb k n ≡ t → (k < n → p k ≡ true) → p k ≡ true
    go true x ih = rw (eqb-true k n x) (both_true (p n) (below n p) e).0
    go false x ih = ih (omega (arith, eqb-false k n x))

-- a field's five bits of the row are its code: every type and field is tried
right : ℕ → ℕ → Bool
right t f = eqb (row t / 2 ^ (f * 5) % 32) (code (feed t f))

all_right : (t : ℕ) → Bool
all_right t = below 12 (right t)

pub coded : (t f : ℕ) {r : ℕ} → r ≡ row t → f < 12 → r / 2 ^ (f * 5) % 32 ≡ code (feed t f)
unfolding right all_right below row feed field_rows
coded t f e h = rw e (go (ltb t 16) refl)
  where
    go : (b : Bool) → ltb t 16 ≡ b → row t / 2 ^ (f * 5) % 32 ≡ code (feed t f)
    go true l = eqb-true _ _ (at_below 12 (right t) f (at_below 16 all_right t refl (ltb-true t 16 l)) h)
    go false l =
        rw (row_above t (ltb-false t 16 l), feed_above t f (ltb-false t 16 l))
        (eqb-true _ _ (at_below 12 (λ f. eqb (0 / 2 ^ (f * 5) % 32) 0) f refl h))

-- what the code c of a field stands for
module _ {c : ℕ} (o : Option Kind) (e : c ≡ code o) where
  pub none_of : c ≡ 0 → Holds.Unlisted ≡ holds o
  none_of h = go o (sym e ∙ h)
    where
      go : (o : Option Kind) → code o ≡ 0 → Holds.Unlisted ≡ holds o
      go none z = refl
      go (some a_number) z = absurd (omega arith)
      go (some a_text) z = absurd (omega arith)
      go (some (a_message u)) z = absurd (omega arith)

  pub number_of : c ≡ 1 → Holds.Number ≡ holds o
  number_of h = go o (sym e ∙ h)
    where
      go : (o : Option Kind) → code o ≡ 1 → Holds.Number ≡ holds o
      go none z = absurd (omega arith)
      go (some a_number) z = refl
      go (some a_text) z = absurd (omega arith)
      go (some (a_message u)) z = absurd (omega arith)

  pub text_of : c ≡ 2 → Holds.Text ≡ holds o
  text_of h = go o (sym e ∙ h)
    where
      go : (o : Option Kind) → code o ≡ 2 → Holds.Text ≡ holds o
      go none z = absurd (omega arith)
      go (some a_number) z = absurd (omega arith)
      go (some a_text) z = refl
      go (some (a_message u)) z = absurd (omega arith)

  pub message_of : (c ≡ 0 → ⊥) → (c ≡ 1 → ⊥) → (c ≡ 2 → ⊥) → Holds.Message (c - 3) ≡ holds o
  message_of h₀ h₁ h₂ = go o e
    where
      go : (o : Option Kind) → c ≡ code o → Holds.Message (c - 3) ≡ holds o
      go none z = absurd (h₀ z)
      go (some a_number) z = absurd (h₁ z)
      go (some a_text) z = absurd (h₂ z)
      go (some (a_message u)) z = let p : c - 3 ≡ u = omega (arith, z) in ap (λ k. Holds.Message k) p
