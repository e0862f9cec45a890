-- A list that is overwritten with one value from the front on, element by element or in blocks. Assumes nothing.
use mathlib.Core.Path.{◌≡◌, refl, ap, ◌∙◌}
use mathlib.Core.List.{List, [], ◌∷◌, ◌++◌, append_assoc, append-nil}
use Prim.Native.Nat.{ℕ, zero, suc, ◌+◌, ◌-◌, ◌≤◌, ◌<◌}
use native.Mathlib.Numerals.{add-one}
use native.Mathlib.Omega.{arith}
use lib.ListN.{length, take, drop, set, replicate, length-set, length-replicate, length-drop, length-append}
use lib.ListN.{replicate-append-replicate}
use lib.Seq.{length-take-le, take_at, drop_at, drop-drop, drop-length}

-- of s₀ the first n elements have become v, which made s
pub record Filled {X : Type 0} (s₀ : List X) (v : X) (n : ℕ) (s : List X) : Type 0 where
  pub within : n ≤ length s₀
  pub long : length s ≡ length s₀
  pub is : s ≡ replicate n v ++ drop n s₀

pub filled_none : {X : Type 0} (s : List X) (v : X) → Filled s v 0 s
filled_none s v = record { within = omega arith; long = refl; is = refl }

more : {X : Type 0} (n : ℕ) (v : X) (d : List X) → n < length d
    → set (replicate n v ++ drop n d) n v ≡ replicate (suc n) v ++ drop (suc n) d
more n v [] h = absurd (omega arith)
more zero v (x ∷ d) h = refl
more (suc n) v (x ∷ d) h = ap (λ l. v ∷ l) (more n v d (omega arith))

module _ {X : Type 0} {s₀ : List X} {v : X} {n : ℕ} {s : List X} (F : Filled s₀ v n s) where
  pub filled_more : n < length s₀ → Filled s₀ v (n + 1) (set s n v)
  filled_more h = record {
    within = omega arith;
    long = length-set s n v ∙ F.long;
    is = ap (λ l. set l n v) F.is ∙ rw add-one (more n v s₀ h);
  }

  -- up to e, as a part of its own
  pub filled_block : (e : ℕ) (b : List X) → n ≤ e → e ≤ length s₀ → b ≡ replicate (length (take (e - n) (drop n s))) v
      → Filled s₀ v e (take n s ++ (b ++ drop (e - n) (drop n s)))
  filled_block e b h h' f =
      let front : take n s ≡ replicate n v =
      ap (take n) F.is ∙ take_at (replicate n v) (drop n s₀) n (length-replicate n v) in
      let back : drop n s ≡ drop n s₀ =
      ap (drop n) F.is ∙ drop_at (replicate n v) (drop n s₀) n (length-replicate n v) in
      let part : length (take (e - n) (drop n s₀)) ≡ e - n =
      length-take-le (e - n) (drop n s₀) (omega (arith, length-drop n s₀)) in
      let end : n + (e - n) ≡ e = omega arith in
      let eq : take n s ++ (b ++ drop (e - n) (drop n s)) ≡ replicate e v ++ drop e s₀ =
      rw (f, front, back, part, drop-drop (e - n) n s₀, ← append_assoc, replicate-append-replicate n (e - n) v, end) in
      record {
        within = h';
        long =
            ap length eq
            ∙ length-append (replicate e v) (drop e s₀)
            ∙ omega (arith, length-replicate e v, length-drop e s₀);
        is = eq;
      }

  pub filled_all : length s₀ ≤ n → s ≡ replicate (length s₀) v
  filled_all h =
      let e : n ≡ length s₀ = omega (arith, F.within) in
      F.is ∙ rw (e, drop-length s₀, append-nil)
