-- What the readers answer where a value stands.
use Rattle.std.proofs.lemmas.Option.{some_pair_parts}
use Rattle.std.specs.Prelude.{Option, Some, unwrap_or}
use mathlib.Core.Path.{◌≡◌, sym, ap, ◌∙◌}
use mathlib.Core.List.{List}
use mathlib.Core.Logic.{inl, inr}
use Prim.Native.Nat.{ℕ, ◌+◌, ◌-◌, ◌≤◌, ◌<◌}
use native.Mathlib.Omega.{arith}
use lib.IntN.{ℤ}
use lib.ListN.{length, drop}
use lib.Seq.{slice}
use Rattle.formats.specs.Class.{Class}
use Rattle.formats.specs.Format.{Format, number, signed, float, text, optional, Value}
use Rattle.formats.specs.Number.{number_r, little_r, zag}
use Rattle.formats.specs.Laws.Number.{zag_zig}
use Rattle.formats.specs.Promises.Outcome.{skip_to, numbered, tag_at}
use Rattle.formats.proofs.Numbers.{place}
use Rattle.formats_read.specs.Promises.Fields.{Has, field_to}
use Rattle.formats_read.specs.Laws.Here.{field, reads, passed, signed_here, text_here, choice_in, first, second}
use Rattle.formats_read.specs.Promises.Here.{Here, Field}
use Rattle.formats_read.specs.Promises.Reads.{ReadsNumber, ReadsText}

-- passing over a value, and locating a field
module _ {f : Format} {s : List ℕ} {at q : ℕ} {v : Value f} (h : Here f s at q v) where
  pub past_at : {r : Option ℕ} {p : ℕ} → r ≡ skip_to f s at → p ≡ unwrap_or r 0 → p ≡ q
  past_at e b = b ∙ ap (λ r. unwrap_or r 0) (e ∙ passed h)

  pub place_at : (k : ℕ) (i : Has k f) {r : Option ℕ} {p : ℕ} → r ≡ field_to k f s at → p ≡ unwrap_or r 0
      → Field k f i s at q v p
  place_at k i {p} e b =
      let x = field k f i h in let w : x.0 ≡ p = sym (b ∙ ap (λ r. unwrap_or r 0) (e ∙ x.2)) in rw w at x.1

-- a number
module _ {s : List ℕ} {at : ℕ} {r : Option (ℕ × ℕ)} (e : r ≡ numbered s (number_r (drop at s))) where
  got : {n q : ℕ} → Here (number 0 0) s at q n → r ≡ Some (n, q)
  got {n} {q} h = e ∙ ap (numbered s) (reads h) ∙ ap (λ other. Some (n, other)) (place s q h.within)

  pub number_got : {m p : ℕ} → r ≡ Some (m, p) → ReadsNumber s at m p
  number_got b = record {
    value = λ h. (some_pair_parts _ _ _ _ (sym b ∙ got h)).0;
    next = λ h. (some_pair_parts _ _ _ _ (sym b ∙ got h)).1;
  }

  pub number_or : {y : ℕ × ℕ} → y ≡ unwrap_or r (0, 0) → ReadsNumber s at y.0 y.1
  number_or b = record {
    value = λ h. ap (λ y. y.0) (b ∙ ap (λ r. unwrap_or r (0, 0)) (got h));
    next = λ h. ap (λ y. y.1) (b ∙ ap (λ r. unwrap_or r (0, 0)) (got h));
  }

-- a float
module _ {s : List ℕ} {at n q : ℕ} (h : Here float s at q n) {r : Option (ℕ × ℕ)}
    (e : r ≡ numbered s (little_r 8 (drop at s))) where
  pub bits : r ≡ Some (n, q)
  bits = e ∙ ap (numbered s) (reads h) ∙ ap (λ other. Some (n, other)) (place s q h.within)

-- a signed number
pub signed_is : {s : List ℕ} {at q n e : ℕ} {lo hi z : ℤ} → Here (signed lo hi) s at q z → ReadsNumber s at n e
    → zag n ≡ z
signed_is {z} h N = ap zag (N.value (signed_here h)) ∙ zag_zig z

-- a text
module _ {s : List ℕ} {at n b : ℕ} (N : ReadsNumber s at n b) where
  module _ {l : ℕ} {c : Class} {v : List ℕ} {q : ℕ} (h : Here (text l c) s at q v) where
    text_at : (n ≡ length v) × (b + length v ≡ q) × (slice b q s ≡ v)
    text_at =
        let x = text_here h in
        let y = N.next x.1.count in
        (N.value x.1.count, omega (arith, y, x.1.size), rw y x.1.bytes)

    text_end : b + n ≡ q
    text_end = omega (arith, text_at.0, text_at.1)

  pub text_out : length s < b → ReadsText s at 0 0
  text_out o = record {
    bytes = λ h. absurd (omega (arith, text_end h, h.within));
    next = λ h. absurd (omega (arith, text_end h, h.within));
    forward = omega arith;
    within = omega arith;
  }

  pub text_over : b ≤ length s → length s - b < n → ReadsText s at 0 0
  text_over k o = record {
    bytes = λ h. absurd (omega (arith, text_end h, h.within));
    next = λ h. absurd (omega (arith, text_end h, h.within));
    forward = omega arith;
    within = omega arith;
  }

  pub text_in : b ≤ length s → n ≤ length s - b → ReadsText s at b (b + n)
  text_in k o = record {
    bytes = λ h. rw (text_end h) (text_at h).2;
    next = λ h. text_end h;
    forward = omega arith;
    within = omega arith;
  }

-- an optional value
module _ {f : Format} {s : List ℕ} {p q : ℕ} (v : Value (optional f)) (h : Here (optional f) s p q v) where
  pub optional_out : length s ≤ p → ⊥
  optional_out l = omega (arith, choice_in v h)

  pub optional_some : (n : Value f) → tag_at s p ≡ 1 → ((x : Value f) → Here f s (p + 1) q x → n ≡ x) → inr n ≡ v
  optional_some n t N = let x = second v h t in ap inr (N x.value x.stands) ∙ sym x.is

  pub optional_none : (tag_at s p ≡ 1 → ⊥) → inl tt ≡ v
  optional_none t = sym (first v h t).is
