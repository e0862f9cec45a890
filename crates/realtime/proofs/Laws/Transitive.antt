-- Law. `Gains` is transitive: what gained fields gains more of them, and that is one gain.
use Rattle.std.specs.Prelude.{ℕ, ◌≡◌, refl, List, [], ◌++◌, length, take}
use Rattle.std.proofs.Common.{sym, ap, subst, ◌∙◌, append_assoc, append-nil, arith, length-append, take_at}
use Rattle.std.proofs.Math.Option.{none, some}
use Rattle.wire.specs.Wire.{Read, read, Key, key, LEN, Field, field}
use Rattle.wire.specs.Laws.Wire.{longer, reader_key}
use Rattle.wire.specs.Fields.{Whole}
use Rattle.wire.specs.Laws.Fields.{field_unique}
use Rattle.basics.specs.Laws.Options.{none_some}
use Rattle.realtime.specs.Tree.{Schema, a_message}
use Rattle.realtime.specs.Gains.{Gains, same, keep, gain, inside, KeyOf, LengthOf}
use Rattle.realtime.proofs.Laws.Gains.{text_front}

-- a field that holds bytes
abbrev holding : ℕ → List ℕ → Field
holding n p = record { number = n; value = LEN p }

-- a key, a length and its bytes are a whole field
pub whole : (n : ℕ) (k l p : List ℕ) → KeyOf k n → LengthOf l p → Whole (k ++ (l ++ p)) (holding n p)
whole n k l p K L = ap (λ z. field 16 (k ++ (l ++ z))) (sym (append-nil p)) ∙ text_front n k l p [] K L

pub three : (k l p a : List ℕ) → k ++ (l ++ (p ++ a)) ≡ (k ++ (l ++ p)) ++ a
three k l p a = ap (λ z. k ++ z) (sym (append_assoc l p a)) ∙ sym (append_assoc k (l ++ p) a)

-- what a field holds, and the type of a listed message, are one
text_of : {m n : ℕ} {x y : List ℕ} → holding m x ≡ holding n y → x ≡ y
text_of e = let v = ap (λ q. q.value) e in cc

type_of : {i j : ℕ} → some (a_message i) ≡ some (a_message j) → i ≡ j
type_of e = cc

-- a key in front is read once
same_key : (k k' r r' : List ℕ) (n n' : ℕ) → KeyOf k n → KeyOf k' n' → k ++ r ≡ k' ++ r'
    → (n ≡ n') × (r ≡ r') × (k ≡ k')
same_key k k' r r' n n' K K' e =
    let h : ◌≡◌ {A = Read Key} (read (record { number = n; wire = 2 }) r) (read (record { number = n'; wire = 2 }) r') =
    sym (longer key reader_key k _ [] r K) ∙ ap key e ∙ longer key reader_key k' _ [] r' K' in
    let rr : r ≡ r' = cc in
    let i : ◌≡◌ {A = Key} (record { number = n; wire = 2 }) (record { number = n'; wire = 2 }) = cc in
    let len : length k' ≡ length k =
    omega (arith, ap length e, length-append k r, length-append k' r', ap length rr) in
    let cut = sym (take_at k r (length k) refl) ∙ ap (take (length k)) e ∙ take_at k' r' (length k) len in
    (ap (λ q. q.number) i, rr, cut)

module _ (σ : Schema) where
  -- what x gains after it gained b
  abbrev On : ℕ → List ℕ → List ℕ → Type 0
  On t x b = (y z : List ℕ) → b ≡ y → Gains σ t y z → Gains σ t x z

  -- behind a kept field
  kept : (t : ℕ) (f : List ℕ) (x : Field) → Whole f x → (a b : List ℕ) → Gains σ t a b → On t a b
      → {y z : List ℕ} → Gains σ t y z → f ++ b ≡ y → Gains σ t (f ++ a) z
  kept t f x w a b g ih same e = subst (λ z. Gains σ t (f ++ a) z) e (keep f x w g)
  kept t f x w a b g ih (keep {a = a'} {b = b'} f' x' w' g') e =
      let u = field_unique f f' x x' b a' w w' e in
      subst (λ z. Gains σ t (f ++ a) (z ++ b')) u.2 (keep f x w (ih a' b' u.1 g'))
  kept t f x w a b g ih (gain f' x' w' h' g') e = gain f' x' w' h' (kept t f x w a b g ih g' e)
  kept t f x w a b g ih (inside {a = a'} {b = b'} n v k l l' p p' K L L' h gp g') e =
      let m = whole n k l p K L in
      let u = field_unique f (k ++ (l ++ p)) x (holding n p) b a' w m (e ∙ three k l p a') in
      subst (λ z. Gains σ t z (k ++ (l' ++ (p' ++ b')))) (three k l p a ∙ ap (λ q. q ++ a) (sym u.2))
      (inside n v k l l' p p' K L L' h gp (ih a' b' u.1 g'))

  -- behind a gained field
  got : (t : ℕ) (f : List ℕ) (x : Field) → Whole f x → σ t x.number ≡ none → (a b : List ℕ)
      → Gains σ t a b → On t a b
      → {y z : List ℕ} → Gains σ t y z → f ++ b ≡ y → Gains σ t a z
  got t f x w h₀ a b g ih same e = subst (λ z. Gains σ t a z) e (gain f x w h₀ g)
  got t f x w h₀ a b g ih (keep {a = a'} {b = b'} f' x' w' g') e =
      let u = field_unique f f' x x' b a' w w' e in
      subst (λ z. Gains σ t a (z ++ b')) u.2 (gain f x w h₀ (ih a' b' u.1 g'))
  got t f x w h₀ a b g ih (gain f' x' w' h' g') e = gain f' x' w' h' (got t f x w h₀ a b g ih g' e)
  got t f x w h₀ a b g ih (inside {a = a'} {b = b'} n v k l l' p p' K L L' h gp g') e =
      let m = whole n k l p K L in
      let u = field_unique f (k ++ (l ++ p)) x (holding n p) b a' w m (e ∙ three k l p a') in
      none_some (sym h₀ ∙ ap (λ q. σ t q.number) u.0 ∙ h)

  -- inside a listed message
  module _ (t n v : ℕ) (k l l' p p' : List ℕ) (K : KeyOf k n) (L : LengthOf l p) (L' : LengthOf l' p')
      (h : σ t n ≡ some (a_message v)) (a b : List ℕ) (gp : Gains σ v p p') (g : Gains σ t a b) (ip : On v p p')
      (ih : On t a b) where
    within : {y z : List ℕ} → Gains σ t y z → k ++ (l' ++ (p' ++ b)) ≡ y → Gains σ t (k ++ (l ++ (p ++ a))) z
    within same e = subst (λ z. Gains σ t (k ++ (l ++ (p ++ a))) z) e (inside n v k l l' p p' K L L' h gp g)
    within (keep {a = a₂} {b = b₂} f x w g') e =
        let m = whole n k l' p' K L' in
        let u = field_unique (k ++ (l' ++ p')) f (holding n p') x b a₂ m w (sym (three k l' p' b) ∙ e) in
        subst (λ z. Gains σ t (k ++ (l ++ (p ++ a))) z) (three k l' p' b₂ ∙ ap (λ q. q ++ b₂) u.2)
        (inside n v k l l' p p' K L L' h gp (ih a₂ b₂ u.1 g'))
    within (gain f x w h' g') e = gain f x w h' (within g' e)
    within (inside {a = a₂} {b = b₂} n₂ v₂ k₂ l₂ m₂ p₂ q₂ K₂ L₂ M₂ h₂ gp₂ g') e =
        let m = whole n k l' p' K L' in
        let m' = whole n₂ k₂ l₂ p₂ K₂ L₂ in
        let d = sym (three k l' p' b) ∙ e ∙ three k₂ l₂ p₂ a₂ in
        let u = field_unique (k ++ (l' ++ p')) (k₂ ++ (l₂ ++ p₂)) (holding n p') (holding n₂ p₂) b a₂ m m' d in
        let s = same_key k k₂ (l' ++ (p' ++ b)) (l₂ ++ (p₂ ++ a₂)) n n₂ K K₂ e in
        let vv : v ≡ v₂ = type_of (sym h ∙ ap (σ t) s.0 ∙ h₂) in
        let i : Gains σ v p q₂ = ip p₂ q₂ (text_of u.0) (subst (λ j. Gains σ j p₂ q₂) (sym vv) gp₂) in
        subst (λ z. Gains σ t (k ++ (l ++ (p ++ a))) (z ++ (m₂ ++ (q₂ ++ b₂)))) s.2
        (inside n v k l m₂ p q₂ K L M₂ h i (ih a₂ b₂ u.1 g'))

  more : {t : ℕ} {x y : List ℕ} → Gains σ t x y → On t x y
  more {t} same y z e g = subst (λ q. Gains σ t q z) (sym e) g
  more {t} (keep {a = a} {b = b} f x w g) y z e g' = kept t f x w a b g (λ q r d j. more g q r d j) g' e
  more {t} (gain {a = a} {b = b} f x w h g) y z e g' = got t f x w h a b g (λ q r d j. more g q r d j) g' e
  more {t} (inside {a = a} {b = b} n u k l l' p p' K L L' h gp g) y z e g' =
      within t n u k l l' p p' K L L' h a b gp g (λ q r d j. more gp q r d j) (λ q r d j. more g q r d j) g' e

  -- GAINS IS TRANSITIVE
  pub gains_more : {t : ℕ} {x y z : List ℕ} → Gains σ t x y → Gains σ t y z → Gains σ t x z
  gains_more {y = y} {z = z} g g' = more g y z refl g'
