-- Loops that go by the wire type of a field: what they know of it. A field that stands with another wire type than its
-- kind's has no tree, so that a reading passes it as any other field. Assumes nothing.
use Rattle.std.specs.Prelude.{Option, Some, None}
use Prim.Native.Nat.{ℕ, ◌+◌, ◌-◌, ◌≤◌, ◌<◌}
use mathlib.Core.Path.{◌≡◌, refl, sym, ap, subst, ◌∙◌}
use mathlib.Core.List.{List}
use mathlib.Core.Bool.{Bool, true, false, cond}
use mathlib.Core.Option.{none, some, map}
use native.Mathlib.Omega.{arith}
use lib.ListN.{length, drop}
use lib.Dec.{eqb}
use borrow.Author.Tests.{ne_eqb, eqb-true, eqb-false}
use Rattle.basics.specs.Laws.Options.{none_some}
use Rattle.wire.specs.Wire.{key}
use Rattle.wire.specs.Laws.At.{ReadAt, key_read}
use Rattle.wire.specs.Promises.Places.{key_at, number_at, text_at, skipped_at}
use Rattle.wire.specs.declared.Cursor.{Cursor}
use Rattle.realtime.specs.Tree.{a_number, a_text, a_message, Schema, tree}
use Rattle.realtime.specs.Schema.{feed}
use Rattle.realtime_read.specs.Laws.Passing.{Passed}
use Rattle.realtime_read.specs.Promises.Steps.{Stepped}
use Rattle.realtime_read.specs.declared.Step.{Step}
use Rattle.realtime_read.proofs.Turn as turn
use Rattle.realtime_read.proofs.Turn.{some_number, some_message}
use Rattle.realtime_read.proofs.Passing.{here, passes, passes_number, passes_text, breaks, breaks_number, breaks_text}
use Rattle.realtime_views.specs.Promises.Fold.{Takes, folded, inside}
use Rattle.realtime_views.specs.Promises.Last.{Single, taking}
use Rattle.realtime_views.specs.Promises.Reading.{Lens}
use Rattle.realtime_views.proofs.Reader.{Reading, Skips, taking_skips, inside_skips, passes_on}

less : {σ : Schema} {t : ℕ} {s : List ℕ} {at f n : ℕ} → Passed σ t s at f n → length s - n < length s - at
less P = omega (arith, P.ahead, P.inside)

-- what is known where a key was read, and what stands behind it: the field is passed, or there is no tree
module _ (s : List ℕ) {at : ℕ} (h : at < length s) {o : Option (ℕ × ℕ × Cursor)} {f w : ℕ} {c : Cursor}
    (k : o ≡ key_at s at)
    (g : o ≡ Some (f, w, c)) where
  pub keyed : ReadAt key s at (record { number = f; wire = w }) c.at
  keyed = key_read s at f w c (sym g ∙ k)

  pub keyed_as : (v : ℕ) → w ≡ v → ReadAt key s at (record { number = f; wire = v }) c.at
  keyed_as v e = subst (λ j. ReadAt key s at (record { number = f; wire = j }) c.at) e keyed

  module _ (z : w ≡ 0) {p : Option (ℕ × Cursor)} (q : p ≡ number_at s c.at) where
    pub number_none : (σ : Schema) (t : ℕ) → p ≡ None → tree σ t (drop at s) ≡ none
    number_none σ t r = breaks_number σ t h (keyed_as 0 z) (sym r ∙ q)

    module _ {m : ℕ} {a : Cursor} (r : p ≡ Some (m, a)) where
      pub number_passed : (σ : Schema) (t : ℕ) → Passed σ t s at f a.at
      number_passed σ t = passes_number h (keyed_as 0 z) (sym r ∙ q)

      pub number_less : length s - a.at < length s - at
      number_less = less (number_passed feed 0)

      pub number_step : (σ : Schema) (t : ℕ) → σ t f ≡ some a_number → Stepped σ t s at (Step.Number f m a.at)
      number_step σ t e = some_number (here h (keyed_as 0 z)) e (sym r ∙ q)

  module _ (z : w ≡ 2) {p : Option (ℕ × ℕ × Cursor)} (q : p ≡ text_at s c.at) where
    pub text_none : (σ : Schema) (t : ℕ) → p ≡ None → tree σ t (drop at s) ≡ none
    text_none σ t r = breaks_text σ t h (keyed_as 2 z) (sym r ∙ q)

    module _ {i l : ℕ} {a : Cursor} (r : p ≡ Some (i, l, a)) where
      pub text_passed : (σ : Schema) (t : ℕ) → Passed σ t s at f a.at
      text_passed σ t = passes_text h (keyed_as 2 z) (sym r ∙ q)

      pub text_less : length s - a.at < length s - at
      text_less = less (text_passed feed 0)

      pub text_inside : 0 + a.at ≤ length s
      text_inside = omega (arith, (text_passed feed 0).inside)

      pub message_step : (σ : Schema) (t : ℕ) {u : ℕ} → σ t f ≡ some (a_message u)
          → Stepped σ t s at (Step.Message f u i l a.at)
      message_step σ t e = some_message (here h (keyed_as 2 z)) e (sym r ∙ q)

  module _ {p : Option Cursor} (q : p ≡ skipped_at s c.at f w 16) where
    pub other_none : (σ : Schema) (t : ℕ) → p ≡ None → tree σ t (drop at s) ≡ none
    other_none σ t r = breaks σ t h keyed (sym r ∙ q)

    module _ {a : Cursor} (r : p ≡ Some a) where
      pub other_passed : (σ : Schema) (t : ℕ) → Passed σ t s at f a.at
      other_passed σ t = passes h keyed (sym r ∙ q)

      pub other_less : length s - a.at < length s - at
      other_less = less (other_passed feed 0)

-- a field f of wire type w stands at `at`
module _ (σ : Schema) (t : ℕ) {s : List ℕ} {at : ℕ} (h : at < length s) {f w next : ℕ}
    (K : ReadAt key s at (record { number = f; wire = w }) next) where
  pub no_number : σ t f ≡ some a_number → (w ≡ 0 → ⊥) → tree σ t (drop at s) ≡ none
  no_number e p =
      (turn.no_number (here {σ = σ} {t = t} h K) e
      (sym (ap (λ b. cond b (number_at s next) None) (ne_eqb w 0 p)))).same

  not_behind : (w ≡ 2 → ⊥) → None ≡ cond (eqb w 2) (text_at s next) None
  not_behind p = sym (ap (λ b. cond b (text_at s next) None) (ne_eqb w 2 p))

  pub no_text : σ t f ≡ some a_text → (w ≡ 2 → ⊥) → tree σ t (drop at s) ≡ none
  no_text e p = (turn.no_text (here {σ = σ} {t = t} h K) e (not_behind p)).same

  pub no_message : {u : ℕ} → σ t f ≡ some (a_message u) → (w ≡ 2 → ⊥) → tree σ t (drop at s) ≡ none
  no_message e p = (turn.no_message (here {σ = σ} {t = t} h K) e (not_behind p)).same

module _ {D B : Type 0} {L : Lens D B} {φ : Takes B} {σ : Schema} {t : ℕ} {s : List ℕ} {from : ℕ} {d₀ : D} {at : ℕ}
    {d : D} (R : Reading L φ σ t s from d₀ at d) where
  -- where there is no tree any reading will do
  pub lost : {n : ℕ} {r : D} → tree σ t (drop at s) ≡ none → n ≤ length s → L.In n r → Reading L φ σ t s from d₀ n r
  lost e h w = record {
    walked = record {
      whole = λ m q. none_some (ap (map (folded φ (L.look s d))) (sym e) ∙ R.walked.whole m q);
    };
    within = w;
    inside = h;
  }

  unless : (k : ℕ) {f n : ℕ} → Passed σ t s at f n → ((f ≡ k → ⊥) → Skips φ f) → (f ≡ k → tree σ t (drop at s) ≡ none)
      → Reading L φ σ t s from d₀ n d
  unless k {f} {n} P K N = go (eqb f k) refl
    where
      go : (b : Bool) → eqb f k ≡ b → Reading L φ σ t s from d₀ n d
      go true e = lost (N (eqb-true f k e)) P.inside (L.far at n d (omega (arith, P.ahead)) R.within)
      go false e = passes_on R P (K (eqb-false f k e))

-- THE LAW OF WIRE TYPES: a field that is passed by another wire type than that of the field that is read
module _ {D B : Type 0} {L : Lens D B} (o : Single B) {σ : Schema} {t : ℕ} {s : List ℕ} {from : ℕ} {d₀ : D} {at : ℕ}
    {d : D} (R : Reading L (taking o) σ t s from d₀ at d) (h : at < length s) {f w next n : ℕ}
    (K : ReadAt key s at (record { number = f; wire = w }) next) (P : Passed σ t s at f n) where
  pub past_number : σ t o.field ≡ some a_number → (w ≡ 0 → ⊥) → Reading L (taking o) σ t s from d₀ n d
  past_number e p = unless R o.field P (taking_skips o) (λ q. no_number σ t h K (ap (σ t) q ∙ e) p)

  pub past_text : σ t o.field ≡ some a_text → (w ≡ 2 → ⊥) → Reading L (taking o) σ t s from d₀ n d
  past_text e p = unless R o.field P (taking_skips o) (λ q. no_text σ t h K (ap (σ t) q ∙ e) p)

module _ {D B : Type 0} {L : Lens D B} (j : ℕ) (φ : Takes B) {σ : Schema} {t u : ℕ} {s : List ℕ} {from : ℕ} {d₀ : D}
    {at : ℕ} {d : D} (R : Reading L (inside j φ) σ t s from d₀ at d) (h : at < length s) {f w next n : ℕ}
    (K : ReadAt key s at (record { number = f; wire = w }) next) (P : Passed σ t s at f n) where
  pub past_messages : σ t j ≡ some (a_message u) → (w ≡ 2 → ⊥) → Reading L (inside j φ) σ t s from d₀ n d
  past_messages e p = unless R j P (inside_skips j φ) (λ q. no_message σ t h K (ap (σ t) q ∙ e) p)
